-- A firing after which the held activities are those of before: none that came has to be listed, and all that are listed are held by the records at which their searches
-- stand. Assumes nothing.
use Prim.Native.Nat.{ℕ, ◌+◌, ◌≤◌, ◌<◌}
use mathlib.Core.Path.{◌≡◌, refl, sym, ap, ◌∙◌}
use mathlib.Core.Bool.{Bool, true, false, ◌&&◌}
use mathlib.Core.List.{List, map}
use native.Mathlib.Omega.{arith}
use lib.Dec.{eqb, ltb}
use lib.ListN.{length, get_or}
use borrow.Author.Tests.{eqb-true, eqb-false, ltb-true, ltb-false, lt-ltb}
use Rattle.record.specs.declared.instruction.Instruction.{Instruction}
use Rattle.record.specs.TokensAndTags.{tokens, token_at, is_spent_record}
use Rattle.rules.specs.Run.{token_held}
use Rattle.store_flags.specs.Flags.{places}
use Rattle.store_flags.specs.Marks.{bit}
use Rattle.store_flags.proofs.Laws.{Binary}
use Rattle.abstraction.specs.Tables.{Arities}
use Rattle.held.specs.Deciding.{held_at, is_next, is_late_next, FlagsUnspent, Standing, Carried, HeldKept, NoneNew, HeldStill, AllStill}
use Rattle.held.proofs.Searching.{still_holds, any_by_one}
use Rattle.held.proofs.Laws.{next_held}
use Rattle.held.proofs.Deciding.{among, listed_free}
use Rattle.held.proofs.Following.{marked_more, standing_more, listed_all}

-- ---- those that are listed

module _ (tables flags ledger nexts held marks : List ℕ) where
  -- the first j of them
  abbrev pub StillTo : (j : ℕ) → Type 0
  StillTo j = (m : ℕ) → m < j → let i = get_or (places nexts) m 0 in (get_or held i 0 ≡ 1) × HeldStill tables flags ledger marks i

  pub none_still : StillTo 0
  none_still m h = absurd (omega arith)

  pub all_still : (j : ℕ) → StillTo j → length (places nexts) ≤ j → AllStill tables flags ledger nexts held marks
  all_still j h past i one =
      let (m, low, e) = among 0 i nexts (omega arith) in
      let same : i ≡ get_or (places nexts) m 0 = omega arith in
      rw same (h m (omega arith))

  pub empty_still : length (places nexts) ≡ 0 → AllStill tables flags ledger nexts held marks
  empty_still e = all_still 0 none_still (omega arith)

-- ---- nothing has to be done

module _ (g : List Instruction) (tables flags ledger : List ℕ) (k used n : ℕ) (nexts held marks : List ℕ) (right : Arities g tables) (grown : used ≤ n) (pos : 0 < k)
    (unspent : FlagsUnspent flags ledger n) (c : Carried g tables ledger k used nexts held marks) (binary : Binary nexts)
    (new : NoneNew g k ledger used n) (still : AllStill tables flags ledger nexts held marks) where
  listed : (i : ℕ) → i < n → get_or nexts i 0 ≡ 0 → is_late_next g k (token_at ledger i) ≡ true → is_spent_record (token_at ledger i).content ≡ true
  listed i low none next = go (ltb i used) refl
    where
      go : (b : Bool) → ltb i used ≡ b → is_spent_record (token_at ledger i).content ≡ true
      go true e = c.listed i (ltb-true i used e) none next
      go false e = let z : ◌≡◌ {A = ℕ} 0 1 = ap bit (sym (new i (ltb-false i used e) low) ∙ next) in absurd (omega arith)

  held_still : (i : ℕ) → Standing g ledger k used marks i → HeldStill tables flags ledger marks i → held_at g k flags ledger n i ≡ true
  unfolding is_next
  held_still i was h =
      let τ = (token_at ledger i).tag in
      let holds = still_holds tables k τ.path (τ.iteration + 1) (token_at ledger (get_or marks i 0)) h.pending was.old in
      let any = any_by_one g tables ledger right n τ.path k (τ.iteration + 1) (get_or marks i 0) (omega (arith, was.below)) holds in
      let on : eqb (get_or flags i 0) 1 ≡ true = rw h.raised refl in
      rw on (next_held g k (map token_held (tokens n ledger)) τ pos was.next ∙ any)

  decided : (i : ℕ) → get_or held i 0 ≡ bit (ltb i n && held_at g k flags ledger n i)
  decided i = go (eqb (get_or nexts i 0) 0) refl
    where
      go : (b : Bool) → eqb (get_or nexts i 0) 0 ≡ b → get_or held i 0 ≡ bit (ltb i n && held_at g k flags ledger n i)
      go true q = low (ltb i n) refl
        where
          none : get_or held i 0 ≡ 0
          none = omega (arith, c.under i, eqb-true (get_or nexts i 0) 0 q)

          low : (y : Bool) → ltb i n ≡ y → get_or held i 0 ≡ bit (y && held_at g k flags ledger n i)
          low true e =
              none ∙ sym (ap bit (listed_free g k flags nexts ledger n (listed_all g k flags nexts ledger n unspent listed) i (ltb-true i n e) (eqb-true (get_or nexts i 0) 0 q)))
          low false e = none
      go false q =
          let one : get_or nexts i 0 ≡ 1 = let z = eqb-false (get_or nexts i 0) 0 q in omega (arith, binary i) in
          let here = still i one in
          let was = c.standing i here.0 in
          let both : (ltb i n && held_at g k flags ledger n i) ≡ true = rw (lt-ltb i n (omega (arith, was.inside))) (held_still i was here.1) in
          here.0 ∙ sym (ap bit both)

  pub calm_kept : HeldKept g tables flags ledger k n nexts held marks
  calm_kept = record {
    carried = record {
      clear = λ i l. c.clear i (omega arith);
      under = c.under;
      listed = listed;
      marked = marked_more tables ledger k used n marks grown c.marked;
      standing = standing_more g ledger k used n held marks grown c.standing;
    };
    decided = record { right = decided };
  }
