-- 01, "Firing": ADD SUB MUL DIV REM LT LE EQ, over the integers. "Quotients go toward zero; the remainder has the dividend's sign;
-- -2,147,483,648 REM -1 is 0. LT, LE and EQ give 1 or 0." Refusal 12: "result past 32 signed bits, or divisor 0". Assumes nothing.
use Rattle.std.specs.Prelude.{zero, suc, Bool, false, cond, eqb, ℤ, pos, negsuc, ◌+ℤ◌, ◌-ℤ◌, ◌*ℤ◌, Option, None, Some}
use Rattle.std.specs.Int.Signed.{lt_z, le_z, quot_z, rem_z}
use Rattle.record.specs.declared.operation.Arithmetic.{Arithmetic}
use Rattle.record.specs.declared.operation.Arithmetic.TheVariants.{Add, Sub, Mul, Div, Rem, Lt, Le, Eq}

-- the ends of 32 signed bits
abbrev pub least : ℤ
least = negsuc 2147483647

abbrev pub most : ℤ
most = pos 2147483647

abbrev pub eq_z : ℤ → ℤ → Bool
eq_z (pos a) (pos b) = eqb a b
eq_z (pos a) (negsuc b) = false
eq_z (negsuc a) (pos b) = false
eq_z (negsuc a) (negsuc b) = eqb a b

-- the number, where it fits 32 signed bits
unfoldable pub ranged : ℤ → Option ℤ
ranged z = cond (lt_z z least) None (cond (lt_z most z) None (Some z))

-- z, a quotient or a remainder by b: by 0 there is none
unfoldable pub divided : ℤ → ℤ → Option ℤ
divided (pos zero) z = None
divided (pos (suc n)) z = ranged z
divided (negsuc n) z = ranged z

-- 1 if so, else 0
abbrev pub truth : Bool → Option ℤ
truth t = cond t (Some (pos 1)) (Some (pos 0))

-- what an operation gives. quot_z rounds toward zero, and rem_z has the dividend's sign (specs/Division)
unfoldable pub compute_of : Arithmetic → ℤ → ℤ → Option ℤ
compute_of Add a b = ranged (a +ℤ b)
compute_of Sub a b = ranged (a -ℤ b)
compute_of Mul a b = ranged (a *ℤ b)
compute_of Div a b = divided b (quot_z a b)
compute_of Rem a b = divided b (rem_z a b)
compute_of Lt a b = truth (lt_z a b)
compute_of Le a b = truth (le_z a b)
compute_of Eq a b = truth (eq_z a b)
