-- Lists rearranged: they have one length and the same members, and each once if each was (`perm_length`, `perm_member`, `perm_once`). Assumes nothing.
use mathlib.Core.Path.{◌≡◌, refl, sym, ap, ◌∙◌}
use mathlib.Core.List.Memᴰ
use mathlib.Core.List.{List, [], ◌∷◌, ◌++◌, Memᴰ}
use mathlib.Core.List.Permᴰ
use mathlib.Core.List.{Permᴰ}
use Prim.Native.Nat.{suc}
use lib.ListN.{length}
use Rattle.machine.specs.Sequences.{Once}

module _ {A : Type 0} where
  pub no_member : (l : List A) → ((a : A) → ¬ (Memᴰ a l)) → l ≡ []
  no_member [] h = refl
  no_member (a ∷ l) h = absurd (h a (Memᴰ.head refl))

  pub perm_length : {l m : List A} → Permᴰ l m → length l ≡ length m
  perm_length Permᴰ.nil = refl
  perm_length (Permᴰ.cons e p) = ap suc (perm_length p)
  perm_length (Permᴰ.swap e f) = refl
  perm_length (Permᴰ.trans p q) = perm_length p ∙ perm_length q

  pub perm_member : {l m : List A} → Permᴰ l m → {a : A} → Memᴰ a l → Memᴰ a m
  perm_member Permᴰ.nil h = h
  perm_member (Permᴰ.cons e p) (Memᴰ.head q) = Memᴰ.head (q ∙ e)
  perm_member (Permᴰ.cons e p) (Memᴰ.tail h) = Memᴰ.tail (perm_member p h)
  perm_member (Permᴰ.swap e f) (Memᴰ.head q) = Memᴰ.tail (Memᴰ.head (q ∙ e))
  perm_member (Permᴰ.swap e f) (Memᴰ.tail (Memᴰ.head q)) = Memᴰ.head (q ∙ f)
  perm_member (Permᴰ.swap e f) (Memᴰ.tail (Memᴰ.tail h)) = Memᴰ.tail (Memᴰ.tail h)
  perm_member (Permᴰ.trans p q) h = perm_member q (perm_member p h)

  pub perm_once : {l m : List A} → Permᴰ l m → Once l → Once m
  perm_once Permᴰ.nil o = o
  perm_once (Permᴰ.cons e p) (n, o) = (λ h. n (Memᴰ.cast e (perm_member (Permᴰ.symm p) h)), perm_once p o)
  perm_once (Permᴰ.swap {a' = a'} {b' = b'} {l = l} e f) (n, (k, o)) = (apart, (λ h. n (Memᴰ.tail (Memᴰ.cast e h)), o))
    where
      apart : ¬ (Memᴰ a' (b' ∷ l))
      apart (Memᴰ.head q) = n (Memᴰ.head (e ∙ sym q ∙ sym f))
      apart (Memᴰ.tail h) = k (Memᴰ.cast f h)
  perm_once (Permᴰ.trans p q) o = perm_once q (perm_once p o)

  pub once_front : (l m : List A) → Once (l ++ m) → Once l
  once_front [] m o = tt
  once_front (a ∷ l) m (n, o) = (λ h. n (Memᴰ.append_left m h), once_front l m o)
