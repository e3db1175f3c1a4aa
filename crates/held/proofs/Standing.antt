-- Where a tag stands in a path, a level at a time. Assumes nothing.
use Prim.Native.Nat.{ℕ, ◌/◌, ◌%◌, ◌<◌}
use mathlib.Core.Path.{◌≡◌, refl, sym, ap, ◌∙◌}
use mathlib.Core.Bool.{Bool, true, false, cond}
use mathlib.Core.Option.{none, some}
use native.Mathlib.Omega.{arith}
use borrow.Author.Tests.{eqb-false}
use Rattle.record.specs.declared.tag.Path.{Path}
use Rattle.record.specs.declared.tag.Tag.{Tag}
use Rattle.record.specs.declared.tag.Caller.{Caller}
use Rattle.std.specs.Prelude.{Option, Some, None}
use Rattle.record.specs.Paths.{path_number, path_words, is_root, same_path}
use Rattle.record.specs.Calls.{leave_of}
use Rattle.record.proofs.Paths.{number_words}
use Rattle.rules.specs.Saved.{on_left}
use Rattle.rules.specs.Held.{stands_in}
use Rattle.rules.proofs.HeldAfter.{stands_step}

module _ (p : Path) (τ : Tag) where
  pub stands_here : same_path τ.path p ≡ true → stands_in p τ ≡ some τ.iteration
  stands_here e = stands_step p τ ∙ ap (λ (b : Bool). cond b (some τ.iteration) (on_left (leave_of τ) none (λ site c. stands_in p c))) e

  above : same_path τ.path p ≡ false → (l : Option Caller) → leave_of τ ≡ l → stands_in p τ ≡ on_left l none (λ site c. stands_in p c)
  above e l h = stands_step p τ
      ∙ ap (λ (b : Bool). cond b (some τ.iteration) (on_left (leave_of τ) none (λ site c. stands_in p c))) e
      ∙ ap (λ (x : Option Caller). on_left x none (λ site c. stands_in p c)) h

  pub stands_nowhere : same_path τ.path p ≡ false → leave_of τ ≡ None → stands_in p τ ≡ none
  stands_nowhere e h = above e None h

  pub stands_above : same_path τ.path p ≡ false → (site : ℕ) (c : Tag) → leave_of τ ≡ Some (record { site = site; tag = c }) → stands_in p τ ≡ stands_in p c
  stands_above e site c h = above e (Some (record { site = site; tag = c })) h

-- the path of a caller has a smaller number
pub caller_below : (τ : Tag) (site : ℕ) (c : Tag) → leave_of τ ≡ Some (record { site = site; tag = c }) → path_number c.path < path_number τ.path
unfolding leave_of is_root
caller_below τ site c h = go (is_root τ.path) refl h
  where
    caller_of : Option Caller → Path
    caller_of l = on_left l τ.path (λ s k. k.path)

    there : Option Caller → ℕ
    there l = on_left l 0 (λ s k. 1)

    go : (b : Bool) → is_root τ.path ≡ b
        → cond {A = Option Caller} b None (Some (record { site = path_number τ.path / 256 % 256; tag = record { path = path_words (path_number τ.path / 65536); iteration = path_number τ.path % 256; instruction = τ.instruction } }))
        ≡ Some (record { site = site; tag = c })
        → path_number c.path < path_number τ.path
    go true e f = let z : ◌≡◌ {A = ℕ} 0 1 = ap there f in absurd (omega arith)
    go false e f =
        let same : path_number τ.path / 65536 ≡ path_number c.path = sym (number_words (path_number τ.path / 65536)) ∙ ap path_number (ap caller_of f) in
        let some_level = eqb-false (path_number τ.path) 0 e in
        omega (arith, same)
