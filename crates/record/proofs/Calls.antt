-- What holds of calls, for any number of levels: LEAVE gives back what ENTER was given, different calls have different paths, a path of k levels is
-- below 65,536 to the k and at least 65,536 to the k less 1, so that ENTER is refused at the most levels and not before. Assumes nothing.
use Rattle.std.proofs.Common.{◌≡◌, ℕ, ◌+◌, ◌-◌, ◌*◌, ◌/◌, ◌%◌, ◌^◌, ◌<◌, ◌≤◌, List, [], ◌∷◌, length, sym, refl, ap, ◌∙◌, pow-suc, arith, le-ltb, lt-ltb, ne_eqb}
use native.Mathlib.Nat.{pow-le-pow_right}
use Rattle.buffer.specs.Rows.{All}
use Rattle.record.specs.Paths.{path_number, path_words, is_root}
use Rattle.record.specs.Calls.{entered, enter_within, leave_of, Call, CallFits, path_of, CallLaws}
use Rattle.record.proofs.Paths.{number_words, words_number}
use Rattle.record.specs.declared.tag.Tag.{Tag}
use Rattle.record.specs.declared.tag.Caller.{Caller}
use Rattle.std.specs.Prelude.{Option, Some, None}
use Rattle.std.proofs.lemmas.Option.{same_Some}

-- ---- one call

pub record SitePath (path site iteration : ℕ) : Type 0 where
  pub back_site : (path * 65536 + site * 256 + iteration) / 256 % 256 ≡ site
  pub back_path : (path * 65536 + site * 256 + iteration) / 65536 ≡ path
  pub back_iteration : (path * 65536 + site * 256 + iteration) % 256 ≡ iteration

parts : (path site iteration : ℕ) → site < 256 → iteration < 256 → SitePath path site iteration
parts path site iteration s i = record { back_site = omega arith; back_path = omega arith; back_iteration = omega arith }

-- leave inverts enter: site, iteration and parent come back
pub leave_entered : (k : Tag) (site : ℕ) → k.path.low < 2 ^ 64 → k.iteration < 256 → 0 < site → site < 256 → leave_of (entered k site) ≡ Some (record { site = site; tag = k })
unfolding leave_of is_root
leave_entered k site word low some small =
    let path = path_number k.path in
    let p = parts path site k.iteration small low in
    rw (
      number_words (path * 65536 + site * 256 + k.iteration),
      ne_eqb (path * 65536 + site * 256 + k.iteration) 0 (λ e. omega arith),
      p.back_site,
      p.back_path,
      p.back_iteration,
      words_number k.path word,
    )

pub same_caller : {s t : ℕ} {a b : Tag} → ◌≡◌ {A = Option Caller} (Some (record { site = s; tag = a })) (Some (record { site = t; tag = b })) → (s ≡ t) × (a ≡ b)
same_caller e = let k = same_Some _ _ e in (ap (λ (c : Caller). c.site) k, ap (λ (c : Caller). c.tag) k)

-- ---- calls within calls

CallPath : {a b : Call} → a.site ≡ b.site → a.iteration ≡ b.iteration → a ≡ b
CallPath p q = λ i. record { site = p i; iteration = q i }

-- a call is never at path 0
some_path : (c : Call) (cs : List Call) → CallFits c → path_of (c ∷ cs) ≡ 0 → ⊥
some_path c cs f e = omega (arith, f.some)

-- different calls give different paths
pub different : (cs ds : List Call) → All CallFits cs → All CallFits ds → path_of cs ≡ path_of ds → cs ≡ ds
different [] [] f g e = refl
different [] (d ∷ ds) f g e = absurd (some_path d ds g.0 (sym e))
different (c ∷ cs) [] f g e = absurd (some_path c cs f.0 e)
different (c ∷ cs) (d ∷ ds) f g e =
    let p = parts (path_of cs) c.site c.iteration f.0.site f.0.iteration in
    let q = parts (path_of ds) d.site d.iteration g.0.site g.0.iteration in
    let sites : c.site ≡ d.site = sym p.back_site ∙ ap (λ (n : ℕ). n / 256 % 256) e ∙ q.back_site in
    let iterations : c.iteration ≡ d.iteration = sym p.back_iteration ∙ ap (λ (n : ℕ). n % 256) e ∙ q.back_iteration in
    let paths : path_of cs ≡ path_of ds = sym p.back_path ∙ ap (λ (n : ℕ). n / 65536) e ∙ q.back_path in
    λ i. CallPath {a = c} {b = d} sites iterations i ∷ different cs ds f.1 g.1 paths i

-- a path of k levels is below 65,536 to the k
pub below : (cs : List Call) → All CallFits cs → path_of cs < 65536 ^ length cs
below [] f = omega arith
below (c ∷ cs) f = rw (pow-suc 65536 (length cs)) (omega (arith, below cs f.1, f.0.site, f.0.iteration))

-- and at least 65,536 to the k less 1
pub at_least : (c : Call) (cs : List Call) → All CallFits (c ∷ cs) → 65536 ^ length cs ≤ path_of (c ∷ cs)
at_least c [] f = omega (arith, f.0.some)
at_least c (d ∷ ds) f = rw (pow-suc 65536 (length ds)) (omega (arith, at_least d ds f.1))

-- where there may be `levels` levels, ENTER goes in from fewer, and from no others
pub enters : (levels : ℕ) (k : Tag) (site : ℕ) (cs : List Call) → All CallFits cs → path_number k.path ≡ path_of cs → length cs < levels
    → enter_within levels k site ≡ Some (entered k site)
unfolding enter_within
enters levels k site cs f e h =
    let powers : 65536 ^ length cs ≤ 65536 ^ (levels - 1) = pow-le-pow_right {n = 65536} (omega arith) {i = length cs} {j = levels - 1} (omega arith) in
    rw (lt-ltb (path_number k.path) (65536 ^ (levels - 1)) (omega (arith, below cs f)))

pub too_deep_lem : (levels : ℕ) (k : Tag) (site : ℕ) (cs : List Call) → All CallFits cs → path_number k.path ≡ path_of cs → 0 < levels → levels ≤ length cs
    → enter_within levels k site ≡ None
unfolding enter_within
too_deep_lem levels k site [] f e s h = absurd (omega arith)
too_deep_lem levels k site (c ∷ cs) f e s h =
    let powers : 65536 ^ (levels - 1) ≤ 65536 ^ length cs = pow-le-pow_right {n = 65536} (omega arith) {i = levels - 1} {j = length cs} (omega arith) in
    rw (le-ltb (path_number k.path) (65536 ^ (levels - 1)) (omega (arith, at_least c cs f)))

-- where the calls of a path are cs, those of the path that ENTER gives are one more
pub entered_path_lem : (k : Tag) (site : ℕ) (cs : List Call) → path_number k.path ≡ path_of cs
    → path_number (entered k site).path ≡ path_of (record { site = site; iteration = k.iteration } ∷ cs)
entered_path_lem k site cs e = number_words (path_number k.path * 65536 + site * 256 + k.iteration) ∙ ap (λ (n : ℕ). n * 65536 + site * 256 + k.iteration) e

-- and LEAVE gives back the newest of them, with the path of the others
pub left_path_lem : (k : Tag) (c : Call) (cs : List Call) → CallFits c → path_number k.path ≡ path_of (c ∷ cs)
    → leave_of k ≡ Some (record { site = c.site; tag = record { path = path_words (path_of cs); iteration = c.iteration; instruction = k.instruction } })
unfolding leave_of is_root
left_path_lem k c cs f e =
    let p = parts (path_of cs) c.site c.iteration f.site f.iteration in
    rw (e, ne_eqb (path_of (c ∷ cs)) 0 (λ z. some_path c cs f z), p.back_site, p.back_path, p.back_iteration)

-- ---- the statement

pub calls : CallLaws
calls = record {
  leave_inverts = leave_entered;
  different = different;
  entered_path = entered_path_lem;
  left_path = left_path_lem;
  enters = enters;
  too_deep = too_deep_lem;
  within = below;
}
