-- Working definition: no public promise cites it.
-- What the check of the graph keeps by site, so that no ENTER looks through the records before it. Assumes nothing.
use Rattle.std.specs.Prelude.{ℕ, ◌<◌, ◌≡◌, Bool, false, not, ◌&&◌, cond, List, get_or, set, ℤ, pos, negsuc, eqb, leb, ltb, Option, Some, None}
use Rattle.record.specs.declared.instruction.Instruction.{Instruction}
use Rattle.rules.specs.Check.{any, enters_site}

-- a constant of 0 to 255, and 256 for any other
unfoldable pub small_of : ℤ → ℕ
small_of (pos n) = cond (leb n 255) n 256
small_of (negsuc n) = 256

-- a record enters the site with another return than instruction i
abbrev pub enters_other : (site i : ℕ) → Instruction → Bool
enters_other site i e = enters_site (pos site) e && not (eqb e.second.instruction i)

-- is the return that is known of a site, if one is, another than instruction i?
abbrev pub is_other : Option ℕ → (i : ℕ) → Bool
is_other None i = false
is_other (Some j) i = not (eqb j i)

-- the table tells of each site whether one of these records enters it with another return
abbrev pub Sites : List Instruction → List (Option ℕ) → Type 0
Sites g t = (site i : ℕ) → site < 256 → any (enters_other site i) g ≡ is_other (get_or t site None) i

-- a table by site after a record: an ENTER puts v at its site
unfoldable pub at_site : {A : Type 0} → List A → Instruction → (v : A) → List A
at_site t r v = cond (eqb r.code 8 && ltb (small_of r.constant) 256) (set t (small_of r.constant) v) t
