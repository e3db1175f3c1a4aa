-- What `ttda_serves` answers, from the promise of `plot_cache::serves`: 1 or 0 for a number that is an answer's (`by_answer`), 0 for any other (`no_answer`). Assumes nothing.
use Rattle.std.specs.Prelude.{Option, Some, None}
use Prim.Native.Nat.{ℕ}
use native.Mathlib.Omega.{arith}
use mathlib.Core.Path.{◌≡◌, refl, sym, ap, subst, ◌∙◌}
use mathlib.Core.Bool.{Bool, true, false, cond}
use Rattle.rules.specs.declared.answer.Answer.{Answer}
use Rattle.plot_cache.specs.Serves.{Request, Served, Decided}
use Rattle.abi.specs.Numbers.{unpacked, ended, ServesNumber}

abbrev answer_in : Option Answer → Answer → Answer
answer_in (Some a) b = a
answer_in None b = b

pub by_answer : (kept : Request) (n held : ℕ) (asked : Request) (a : Answer) (said : Bool) (r : ℕ) → unpacked n ≡ Some a → Decided kept (ended a held) asked said → r ≡ cond said 1 0 → ServesNumber kept n held asked r
by_answer kept n held asked a said r e d t = record {
  exactly = rw (e, ← d.exactly) t;
  holds = λ one b f. subst (λ (z : Answer). Served kept (ended z held) asked) (ap (λ (u : Option Answer). answer_in u a) (sym e ∙ f)) (d.holds (yes_said said (sym t ∙ one)));
}
  where
    yes_said : (s : Bool) → ◌≡◌ {A = ℕ} (cond s 1 0) 1 → s ≡ true
    yes_said true h = refl
    yes_said false h = absurd (omega arith)

pub no_answer : (kept : Request) (n held : ℕ) (asked : Request) → unpacked n ≡ None → ServesNumber kept n held asked 0
no_answer kept n held asked e = record { exactly = rw e; holds = λ one. absurd (omega arith) }
