-- A transition system whose steps persist and swap: any two sequences of steps to a state with nothing enabled have the same steps
-- and one end. Says nothing of tokens; `View` has the steps of the machine. Assumes nothing.
use mathlib.Core.Path.{◌≡◌, refl, sym, subst}
use mathlib.Core.List.Permᴰ
use mathlib.Core.List.{List, [], ◌∷◌, ◌++◌, Permᴰ}

module _ (S A : Type 0) (En : S → A → Type 0) (Step : S → A → S → Type 0) where
  abbrev pub Final : S → Type 0
  Final s = (a : A) → ¬ (En s a)

  -- the steps l, in turn, lead from s to e
  abbrev pub Run : List A → S → S → Type 0
  Run [] s e = s ≡ e
  Run (a ∷ l) s e = (x : S) × Step s a x × Run l x e

  -- an enabled a stays enabled while others step, and two steps can be taken in either order
  pub record Laws : Type 0 where
    pub same : Discrete A
    pub enabled : {s x : S} {a : A} → Step s a x → En s a
    pub only : {s x y : S} {a : A} → Step s a x → Step s a y → x ≡ y
    pub persist : {s x : S} {a b : A} → ¬ (a ≡ b) → Step s a x → En s b → En x b
    pub swap : {s x z : S} {a b : A} → ¬ (a ≡ b) → En s b → Step s a x → Step x b z → (y : S) × Step s b y × Step y a z

  -- what is enabled at the start of a sequence to the end can come first
  abbrev pub First : List A → S → S → A → Type 0
  First l s e b = (m : List A) × (y : S) × Permᴰ l (b ∷ m) × Step s b y × Run m y e

  module _ (L : Laws) where
    pub comes_first : (l : List A) (s e : S) (b : A) → Final e → Run l s e → En s b → First l s e b
    comes_first [] s e b fin r en = absurd (fin b (subst (λ x. En x b) r en))
    comes_first (a ∷ l) s e b fin (x, st, r) en = go (λ h. comes_first l x e b fin r h) (L.same a b)
      where
        later : ¬ (a ≡ b) → First l x e b → First (a ∷ l) s e b
        later ne (m, z, p, st2, r2) =
            let (y, sb, sa) = L.swap ne en st st2 in
            (a ∷ m, y, Permᴰ.trans (Permᴰ.cons refl p) (Permᴰ.swap refl refl), sb, (z, sa, r2))

        go : (En x b → First l x e b) → Dec (a ≡ b) → First (a ∷ l) s e b
        go rec (yes p) = (l, x, Permᴰ.cons p (Permᴰ.refl l), subst (λ c. Step s c x) p st, r)
        go rec (no ne) = later ne (rec (L.persist ne st en))

    -- from wherever a sequence has come, the steps that remain lead to the end
    pub remaining : (m l : List A) (s e f : S) → Final e → Run l s e → Run m s f → (n : List A) × Permᴰ l (m ++ n) × Run n f e
    remaining [] l s e f fe re rf = (l, Permᴰ.refl l, subst (λ x. Run l x e) rf re)
    remaining (a ∷ m) l s e f fe re (x, st, r) = go (comes_first l s e a fe re (L.enabled st)) (λ k h. remaining m k x e f fe h r)
      where
        go : First l s e a → ((k : List A) → Run k x e → (n : List A) × Permᴰ k (m ++ n) × Run n f e) → (n : List A) × Permᴰ l (a ∷ (m ++ n)) × Run n f e
        go (k, y, p, st2, r2) rec =
            let (n, q, r3) = rec k (subst (λ z. Run k z e) (L.only st2 st) r2) in
            (n, Permᴰ.trans p (Permᴰ.cons refl q), r3)

    -- what is enabled there is not refused, and is one of these steps
    pub goes_on : (m l : List A) (s e f : S) (b : A) → Final e → Run l s e → Run m s f → En f b → (n : List A) × (y : S) × Permᴰ l (m ++ (b ∷ n)) × Step f b y × Run n y e
    goes_on m l s e f b fe re rf en =
        let (k, p, r) = remaining m l s e f fe re rf in
        let (n, y, q, st, r2) = comes_first k f e b fe r en in
        (n, y, Permᴰ.trans p (Permᴰ.append_left m q), st, r2)

    -- any two sequences to an end have the same steps and one end
    pub unique : (m l : List A) (s e f : S) → Final e → Run l s e → Final f → Run m s f → Permᴰ l m × (e ≡ f)
    unique m l s e f fe re ff rf = go (remaining m l s e f fe re rf)
      where
        go : (n : List A) × Permᴰ l (m ++ n) × Run n f e → Permᴰ l m × (e ≡ f)
        go ([], p, r) = (Permᴰ.trans p (Permᴰ.append-nil m), sym r)
        go (a ∷ n, p, (x, st, r)) = absurd (ff a (L.enabled st))
