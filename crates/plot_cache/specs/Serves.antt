-- The cache of the plotter (the mission: it "is built above the engine and keeps a cache of the last listing"): when what is kept of one run serves for a run that is asked
-- for, and what is promised then, over the promises of `run` (crate engine), `list` and `profile`, and of `count` (crate activities), which tells one hang from another. The promise is proved in proofs/Served. Assumes nothing.
use Rattle.std.specs.Prelude.{ℕ, ◌*◌, ◌≡◌, ◌⊎◌, Bool, true, false, ◌&&◌, ◌||◌, List, [], ◌∷◌, eqb, leb, length, take}
use Rattle.buffer.specs.Rows.{whole}
use Rattle.record.specs.TokensAndTags.{most_tokens}
use Rattle.record.specs.Widths.{pick_width, step_width}
use Rattle.machine.specs.Orders as Ends
use Rattle.rules.specs.declared.answer.Outcome.{Outcome}
use Rattle.rules.specs.declared.answer.Outcome.TheVariants.{Completed, Hung, Spent, Refused}
use Rattle.rules.specs.Runs.{LentToRun, LeftByRun, LentToProfile, LeftByProfile, ProfiledOn, outcome_in}
use Rattle.rules.specs.Bounded.{BoundedOn}
use Rattle.activities.specs.Hangs.{held_left}
use Rattle.listing.specs.Listing.{list_answer, listed_out}
use Rattle.listing.specs.Demand3.{used_bytes}
use Rattle.plot_cache.specs.declared.Limits.{Limits}
use Rattle.plot_cache.specs.declared.Ended.{Ended}

-- ---- a run that is kept or asked for

-- all that a run depends on; ledger and cells by their lengths in bytes
pub record Request : Type 0 where
  pub graph : List ℕ
  pub arrays : List ℕ
  pub inputs : List ℕ
  pub picks : List ℕ
  pub limits : Limits

abbrev pub request : (graph arrays inputs picks : List ℕ) → Limits → Request
request graph arrays inputs picks limits = record { graph = graph; arrays = arrays; inputs = inputs; picks = picks; limits = limits }

-- ---- when one serves for another

abbrev pub same_bytes : List ℕ → List ℕ → Bool
same_bytes [] [] = true
same_bytes [] (b ∷ m) = false
same_bytes (a ∷ l) [] = false
same_bytes (a ∷ l) (b ∷ m) = eqb a b && same_bytes l m

-- 01, "Any two orders": "over one graph and one list of inputs [..] Capacity and cell count are equal"; R-10: "Orders are compared [..] under one table"
unfoldable pub same_machine : (graph graph' arrays arrays' inputs inputs' : List ℕ) → Limits → Limits → Bool
same_machine graph graph' arrays arrays' inputs inputs' l l' =
    same_bytes graph graph' && (same_bytes arrays arrays' && (same_bytes inputs inputs' && (eqb l.ledger l'.ledger && eqb l.cells l'.cells)))

-- and the same order in every byte, under one bound
unfoldable pub same_order : (picks picks' : List ℕ) → Limits → Limits → Bool
same_order picks picks' l l' = eqb l.budget l'.budget && (eqb l.bound l'.bound && same_bytes picks picks')

-- nothing is left enabled. R-9: "completes, or hangs with no held activity left"
unfoldable pub rests : Outcome → (held : ℕ) → Bool
rests Completed held = true
rests Hung held = eqb held 0
rests Spent held = false
rests (Refused r place) held = false

-- demand 3: a run that completed or hung ends as every order does, "picks [..] of allowed length", whose budget has room for its firings. R-9: so does one with a bound, and
-- the order is one without: with a bound it might hang on held ones. The picks by their length in bytes
unfoldable pub any_order : Ended → (picks : ℕ) → Limits → Bool
any_order e picks l = rests e.answer.outcome e.held && (eqb l.bound 0 && (whole pick_width most_tokens picks && leb e.answer.firings l.budget))

-- of a run that ended so
unfoldable pub serves : (kept : Request) → Ended → (asked : Request) → Bool
serves k e a =
    same_machine k.graph a.graph k.arrays a.arrays k.inputs a.inputs k.limits a.limits
    && (same_order k.picks a.picks k.limits a.limits || any_order e (length a.picks) a.limits)

-- ---- what is promised then

-- `run`, called with what the request says: it left x
pub record RanAs (q : Request) (l : LentToRun) (x : LeftByRun) : Type 0 where
  pub picks : l.picks ≡ q.picks
  pub ledger : length l.ledger ≡ q.limits.ledger
  pub cells : length l.cells ≡ q.limits.cells
  pub ran : BoundedOn q.graph q.arrays q.inputs q.limits.budget q.limits.bound l x

-- and `profile`, which takes no picks and no budget
pub record ProfiledAs (q : Request) (l : LentToProfile) (x : LeftByProfile) : Type 0 where
  pub ledger : length l.ledger ≡ q.limits.ledger
  pub cells : length l.cells ≡ q.limits.cells
  pub profiled : ProfiledOn q.graph q.arrays q.inputs l x

-- all that is shown of two runs is the same
pub record ShownAlike (l m : LentToRun) (x y : LeftByRun) : Type 0 where
  pub answers : x.answer ≡ y.answer
  -- in every byte; but a run that is refused before any firing leaves them as lent
  pub cells : (x.cells ≡ y.cells) ⊎ ((x.cells ≡ l.cells) × (y.cells ≡ m.cells))
  -- `list` is done with both, in outputs of their length
  pub listings : (out out' : List ℕ) → length out ≡ length (used_bytes x) → length out' ≡ length (used_bytes y)
      → (list_answer (used_bytes x) out ≡ 0) × (list_answer (used_bytes y) out' ≡ 0) × (listed_out (used_bytes x) out ≡ listed_out (used_bytes y) out')

-- all that is plotted of two profiles is the same: the answer, the number of records and each byte of these
pub record PlottedAlike (x y : LeftByProfile) : Type 0 where
  pub answers : x.answer ≡ y.answer
  pub records : take (x.answer.records * step_width) x.profile ≡ take (y.answer.records * step_width) y.profile

-- what is kept is of this run: its answer and, of a hang, how many activities its bound holds back in what it left
pub record KeptOf (q : Request) (x : LeftByRun) (e : Ended) : Type 0 where
  pub answer : x.answer ≡ e.answer
  pub held : Ends.Hung (outcome_in x.answer.outcome) → held_left q.graph q.limits.bound x ≡ e.held

-- what is kept serves: the run that is asked for shows the same as the kept one; and so does its profile, in room for as many records
pub record Served (kept : Request) (e : Ended) (asked : Request) : Type 0 where
  pub runs : (l m : LentToRun) (x y : LeftByRun) → RanAs kept l x → KeptOf kept x e → RanAs asked m y → ShownAlike l m x y
  pub profiles : (l m : LentToProfile) (x y : LeftByProfile) → ProfiledAs kept l x → ProfiledAs asked m y → length l.profile ≡ length m.profile → PlottedAlike x y

-- the promise of `serves`
pub record Decided (kept : Request) (e : Ended) (asked : Request) (said : Bool) : Type 0 where
  -- it says yes exactly where it may
  pub exactly : said ≡ serves kept e asked
  pub holds : said ≡ true → Served kept e asked
