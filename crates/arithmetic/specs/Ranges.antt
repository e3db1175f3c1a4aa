-- 02, R-11: the operations over ranges, "the smallest range that holds every outcome, each operand chosen freely within its range; refusal 12 comes if an
-- outcome is out of range or the divisor's range holds 0". The definitions compute by the ends of the operands; what is stated of them is proved in
-- proofs/Ranges. Assumes nothing.
use Rattle.std.specs.Prelude.{◌-◌, max, ◌≡◌, Bool, true, false, ◌&&◌, cond, ℤ, pos, neg_ℤ, nat_abs, ◌+ℤ◌, ◌-ℤ◌, ◌*ℤ◌, ◌≤ℤ◌, Option, None, Some, is_some, option_map}
use Rattle.std.specs.Int.Signed.{lt_z, le_z, quot_z, rem_z}
use Rattle.std.specs.Int.{w32}
use Rattle.std.proofs.Common.{SFits}
use Rattle.record.specs.declared.operation.Arithmetic.{Arithmetic}
use Rattle.record.specs.declared.operation.Arithmetic.TheVariants.{Add, Sub, Mul, Div, Rem, Lt, Le, Eq}
use Rattle.arithmetic.specs.declared.Range.{Range}
use Rattle.arithmetic.specs.Arithmetic.{eq_z, ranged, compute_of}

-- ---- ranges

-- a value is one of the range
pub record Holds (r : Range) (v : ℤ) : Type 0 where
  pub above : r.low ≤ℤ v
  pub below : v ≤ℤ r.high

pub record FitsBits (r : Range) : Type 0 where
  pub low : SFits w32 r.low
  pub high : SFits w32 r.high

-- there is a value in it
abbrev pub ProperRange : Range → Type 0
ProperRange r = r.low ≤ℤ r.high

abbrev pub single : ℤ → Range
single v = record { low = v; high = v }

-- it is one value
abbrev pub is_single : Range → Bool
is_single r = eq_z r.low r.high

-- it may be 0
abbrev pub may_be_zero : Range → Bool
may_be_zero r = le_z r.low (pos 0) && le_z (pos 0) r.high

-- ---- outcomes

abbrev pub smaller : ℤ → ℤ → ℤ
smaller x y = cond (le_z x y) x y

abbrev pub larger : ℤ → ℤ → ℤ
larger x y = cond (le_z x y) y x

-- of four corners the least and the most
abbrev pub corners : (ℤ → ℤ → ℤ) → Range → Range → Range
corners f a b = record {
  low = smaller (smaller (f a.low b.low) (f a.low b.high)) (smaller (f a.high b.low) (f a.high b.high));
  high = larger (larger (f a.low b.low) (f a.low b.high)) (larger (f a.high b.low) (f a.high b.high));
}

-- 1 if so, else 0
abbrev pub truth_value : Bool → ℤ
truth_value t = cond t (pos 1) (pos 0)

-- what an operation gives of two numbers, whatever its size; of a divisor 0 it is of no account
unfoldable pub outcome : Arithmetic → ℤ → ℤ → ℤ
outcome Add x y = x +ℤ y
outcome Sub x y = x -ℤ y
outcome Mul x y = x *ℤ y
outcome Div x y = quot_z x y
outcome Rem x y = rem_z x y
outcome Lt x y = truth_value (lt_z x y)
outcome Le x y = truth_value (le_z x y)
outcome Eq x y = truth_value (eq_z x y)

-- two ranges are surely equal if both are one value, the same; and may be equal if they overlap
unfoldable pub equalities : Range → Range → Range
equalities a b = record {
  low = truth_value (is_single a && (is_single b && eq_z a.low b.low));
  high = truth_value (le_z a.low b.high && le_z b.low a.high);
}

-- "REM of two single values is exact. Otherwise, with m the divisor's largest magnitude, it runs from 1 - m (0 if the dividend can't be negative) to m - 1
-- (0 if it can't be positive)."
unfoldable pub remainders : Range → Range → Range
remainders a b =
    let m = max (nat_abs b.low) (nat_abs b.high) in
    cond (is_single a && is_single b) (single (rem_z a.low b.low))
    (record { low = cond (lt_z a.low (pos 0)) (neg_ℤ (pos (m - 1))) (pos 0); high = cond (lt_z (pos 0) a.high) (pos (m - 1)) (pos 0) })

-- all but EQ and REM rise or fall with each operand while the other is fixed, so that their ends are at corners
unfoldable pub outcomes : Arithmetic → Range → Range → Range
outcomes Add a b = corners (outcome Add) a b
outcomes Sub a b = corners (outcome Sub) a b
outcomes Mul a b = corners (outcome Mul) a b
outcomes Div a b = corners (outcome Div) a b
outcomes Rem a b = remainders a b
outcomes Lt a b = corners (outcome Lt) a b
outcomes Le a b = corners (outcome Le) a b
outcomes Eq a b = equalities a b

-- ---- refusal 12

abbrev pub divides : Arithmetic → Bool
divides Add = false
divides Sub = false
divides Mul = false
divides Div = true
divides Rem = true
divides Lt = false
divides Le = false
divides Eq = false

abbrev pub in_bits : Range → Option Range
in_bits r = cond (is_some (ranged r.low) && is_some (ranged r.high)) (Some r) None

-- what an operation gives of two ranges; none is refusal 12
unfoldable pub range_of : Arithmetic → Range → Range → Option Range
range_of op a b = cond (divides op && may_be_zero b) None (in_bits (outcomes op a b))

-- ---- what is stated

-- of two numbers out of two ranges an operation gives the computed c
pub record OutcomeOf (op : Arithmetic) (a b : Range) (c : Option ℤ) : Type 0 where
  pub left : ℤ
  pub right : ℤ
  pub holds_left : Holds a left
  pub holds_right : Holds b right
  pub gives : compute_of op left right ≡ c

-- every outcome is held; so it is for REM too
abbrev pub HoldsEvery : Type 0
HoldsEvery = (op : Arithmetic) (a b r : Range) → range_of op a b ≡ Some r → (x y : ℤ) → Holds a x → Holds b y → (v : ℤ) × (compute_of op x y ≡ Some v) × Holds r v

-- the smallest such range: both ends are outcomes
pub record EndsReached (op : Arithmetic) (a b r : Range) : Type 0 where
  pub least : OutcomeOf op a b (Some r.low)
  pub most : OutcomeOf op a b (Some r.high)

abbrev pub Smallest : Type 0
Smallest = (op : Arithmetic) → ¬ (op ≡ Rem) → (a b r : Range) → ProperRange a → ProperRange b → range_of op a b ≡ Some r → EndsReached op a b r

-- and refusal 12 comes only if an outcome is out of range or a divisor 0
abbrev pub RefusedFor : Type 0
RefusedFor = (op : Arithmetic) → ¬ (op ≡ Rem) → (a b : Range) → ProperRange a → ProperRange b → range_of op a b ≡ None → OutcomeOf op a b None

-- REM of 32-bit operands: only for a divisor's range that holds 0
abbrev pub RefusedForZero : Type 0
RefusedForZero = (a b : Range) → FitsBits a → FitsBits b → range_of Rem a b ≡ None → may_be_zero b ≡ true

-- what is given is a range again, of 32-bit ends
pub record Sound (r : Range) : Type 0 where
  pub proper : ProperRange r
  pub fits : FitsBits r

abbrev pub GivesSound : Type 0
GivesSound = (op : Arithmetic) (a b r : Range) → ProperRange a → ProperRange b → range_of op a b ≡ Some r → Sound r

-- of single values an operation over ranges gives what it gives of numbers
abbrev pub SingleExact : Type 0
SingleExact = (op : Arithmetic) (x y : ℤ) → range_of op (single x) (single y) ≡ option_map single (compute_of op x y)
