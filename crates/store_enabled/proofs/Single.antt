-- No two tokens stand on one port of a tag: that holds of no tokens, and it stays as a token arrives where none stood, and as one is replaced on its port of
-- its tag. Assumes nothing.
use Prim.Native.Nat.{ℕ, ◌<◌}
use mathlib.Core.Path.{◌≡◌, refl}
use mathlib.Core.List.{List, [], ◌∷◌, ◌++◌}
use native.Mathlib.Omega.{arith}
use native.Mathlib.Decide.{ℕ_discrete, dec_lt}
use native.Mathlib.Nat.{not-suc-le-zero}
use lib.ListN.{length, get_or, set, length-append, length-set, get_or-append}
use lib.Seq.{get_or-set_same, get_or-set_other}
use Rattle.record.specs.TokensAndTags.{stands_at}
use Rattle.record.specs.declared.tag.Tag.{Tag}
use Rattle.record.specs.declared.token.Token.{Token}
use Rattle.std.specs.Prelude.{Some}
use Rattle.store_chains.specs.Search.{first_from, Free, Single}
use Rattle.store_chains.proofs.Search.{first_added, first_set, first_kept_lem, get_d_end}
use Rattle.store_chains.proofs.Index.{stands_own, stands_same}

-- the place of a token on its port of its tag, as its tag and port are given
pub single_at : (ts : List Token) → Single ts → (i : ℕ) (d : Token) → i < length ts → (tag : Tag) (port : ℕ) → tag ≡ (get_or ts i d).tag → port ≡ (get_or ts i d).port
    → first_from (stands_at tag port) 0 ts ≡ Some i
unfolding Single
single_at ts w i d h tag port e g = rw (e, g) (w i d h)

pub single_none : Single []
unfolding Single
single_none i d h = absurd (not-suc-le-zero h)

pub single_append : (ts : List Token) (t : Token) → Single ts → Free ts t.tag t.port → Single (ts ++ t ∷ [])
unfolding Single
single_append ts t w free i d h = go (dec_lt i (length ts))
  where
    us : List Token
    us = ts ++ t ∷ []

    go : Dec (i < length ts) → first_from (stands_at (get_or us i d).tag (get_or us i d).port) 0 us ≡ Some i
    go (yes l) =
        let e = get_or-append ts (t ∷ []) d i l in
        rw e (first_kept_lem (stands_at (get_or ts i d).tag (get_or ts i d).port) ts (t ∷ []) 0 i (w i d l))
    go (no z) =
        let n : i ≡ length ts = omega (arith, length-append ts (t ∷ [])) in
        let e : get_or us (length ts) d ≡ t = get_d_end ts t d in
        rw (n, e) (first_added (stands_at t.tag t.port) t ts free (stands_own t.tag t.port t refl refl))

pub single_set : (ts : List Token) (j : ℕ) (u x : Token) → Single ts → j < length ts → u.tag ≡ (get_or ts j x).tag → u.port ≡ (get_or ts j x).port → Single (set ts j u)
unfolding Single
single_set ts j u x w h e g i d l = go (ℕ_discrete i j)
  where
    us : List Token
    us = set ts j u

    below : i < length ts
    below = omega (arith, length-set ts j u)

    same : (tag : Tag) (port : ℕ) → first_from (stands_at tag port) 0 us ≡ first_from (stands_at tag port) 0 ts
    same tag port = first_set (stands_at tag port) ts j u x (stands_same tag port u (get_or ts j x) e g) 0

    go : Dec (i ≡ j) → first_from (stands_at (get_or us i d).tag (get_or us i d).port) 0 us ≡ Some i
    go (yes q) =
        let here : get_or us i d ≡ u = rw q (get_or-set_same ts j u d h) in
        rw (here, same u.tag u.port, e, g, ← q) (w i x below)
    go (no q) =
        let other : get_or us i d ≡ get_or ts i d = get_or-set_other ts j i u d q in
        rw (other, same (get_or ts i d).tag (get_or ts i d).port) (w i d below)
