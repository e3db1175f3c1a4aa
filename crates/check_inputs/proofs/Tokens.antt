-- The inputs in turn: their records as a list of tokens, and the table of those before. Assumes nothing.
use Prim.Native.Nat.{ℕ, ◌+◌, ◌/◌, ◌-◌, ◌≤◌, ◌<◌}
use native.Mathlib.Omega.{arith}
use mathlib.Core.Path.{◌≡◌, refl, sym, ◌∙◌}
use mathlib.Core.Bool.{Bool, true, false, ◌||◌}
use mathlib.Core.List.{List, [], ◌∷◌, ◌++◌}
use lib.ListN.{length, get_or, set, take, drop, replicate}
use lib.Seq.{get_or-set_same, get_or-set_other, take-add}
use lib.Dec.{eqb}
use borrow.Author.Tests.{eqb-true, eqb-false}
use Rattle.record.specs.declared.tag.Tag.{Tag}
use Rattle.record.specs.declared.token.Token.{Token}
use Rattle.record.specs.Paths.{same_path}
use Rattle.record.specs.TokensAndTags.{decode_token, token_at, same_tag, stands_at}
use Rattle.buffer.proofs.Tables.{length_rows, get_d_rows}
use Rattle.record.specs.Widths.{token_width}
use Rattle.rules.specs.Check.{any}
use Rattle.check_inputs.specs.Inputs.{input_tokens, entry_of, SeenEntries}
use Rattle.check_fields.proofs.Turns.{or-false, any_append, any_next, and_true_left, and_true_right}

pub length_tokens : (l : List ℕ) → length (input_tokens l) ≡ length l / token_width
length_tokens l = length_rows token_width decode_token (length l / token_width) l

pub in_tokens : (l : List ℕ) (i : ℕ) → i < length l / token_width → (d : Token) → get_or (input_tokens l) i d ≡ token_at l i
in_tokens l i h d = get_d_rows token_width decode_token (length l / token_width) i l d h

-- f holds of none of the first j tokens: whether it holds of one of them or of the next, x
pub any_token : (f : Token → Bool) (l : List ℕ) (j : ℕ) {x : Token} {b : Bool} → j < length l / token_width → any f (take j (input_tokens l)) ≡ false → x ≡ token_at l j → b ≡ f x
    → any f (take (j + 1) (input_tokens l)) ≡ b
any_token f l j {x} h none e s = any_next f (input_tokens l) j x (omega (arith, length_tokens l)) (in_tokens l j h x ∙ sym e) ∙ rw (none, ← s)

-- a token is found among more, too
pub any_more : {A : Type 0} (f : A → Bool) (xs : List A) (i n : ℕ) → i ≤ n → any f (take i xs) ≡ true → any f (take n xs) ≡ true
any_more f xs i n h e =
    let s : n ≡ i + (n - i) = omega arith in
    rw (s, take-add i (n - i) xs, any_append f (take i xs) (take (n - i) (drop i xs)), e)

pub none_seen : SeenEntries [] (replicate 512 false)
none_seen tag port z = refl

-- a token that stands at a port of a tag has that one's entry
same_entry : (tag : Tag) (port : ℕ) (t : Token) → stands_at tag port t ≡ true → entry_of tag port ≡ entry_of t.tag t.port
unfolding stands_at same_tag
same_entry tag port t e =
    let p = eqb-true t.port port (and_true_left (eqb t.port port) _ e) in
    let q = and_true_right (eqb t.port port) _ e in
    let i = eqb-true t.tag.instruction tag.instruction (and_true_right (eqb t.tag.iteration tag.iteration) _ (and_true_right (same_path t.tag.path tag.path) _ q)) in
    rw (p, i)

pub see : (ts : List Token) (table : List Bool) (t : Token) → SeenEntries ts table → length table ≡ 512 → SeenEntries (ts ++ t ∷ []) (set table (entry_of t.tag t.port) true)
see ts table t seen n tag port z =
    any_append (stands_at tag port) ts (t ∷ [])
    ∙ rw (or-false (stands_at tag port t)) (go (eqb (entry_of tag port) (entry_of t.tag t.port)) (stands_at tag port t) refl refl)
  where
    differ : {P : Type 0} → true ≡ false → P
    differ q = let k : ◌≡◌ {A = ℕ} 0 1 = cc in absurd (omega arith)

    go : (b s : Bool) → eqb (entry_of tag port) (entry_of t.tag t.port) ≡ b → stands_at tag port t ≡ s → (any (stands_at tag port) ts || s) ≡ false
    go true s p q =
        let e = eqb-true (entry_of tag port) (entry_of t.tag t.port) p in
        let one = get_or-set_same table (entry_of t.tag t.port) true false (omega arith) in
        let z' : get_or (set table (entry_of t.tag t.port) true) (entry_of t.tag t.port) false ≡ false = rw e at z in
        differ (sym one ∙ z')
    go false true p q = absurd (eqb-false (entry_of tag port) (entry_of t.tag t.port) p (same_entry tag port t q))
    go false false p q =
        or-false (any (stands_at tag port) ts)
        ∙ seen tag port (sym (get_or-set_other table (entry_of t.tag t.port) (entry_of tag port) true false (eqb-false (entry_of tag port) (entry_of t.tag t.port) p)) ∙ z)
