-- Working definition: no public promise cites it.
-- Whether a firing's outputs can go into the ledger, as searches of its tokens. proofs/ joins this with the machine's definitions. Assumes nothing.
use Rattle.std.specs.Prelude.{ℕ, ◌+◌, ◌<◌, ◌≡◌, Bool, true, false, ◌&&◌, cond, List, [], ◌∷◌, ◌++◌, length, eqb, ltb, Result, Ok, Err, is_some}
use Rattle.record.specs.declared.token.Token.{Token}
use Rattle.record.specs.declared.token.Content.{Content}
use Rattle.record.specs.TokensAndTags.{same_tag, stands_at}
use Rattle.store_chains.specs.declared.Slot.{Slot}
use Rattle.store_chains.specs.Search.{first_from, Free}
use Rattle.store_chains.specs.Slots.{Open}
use Rattle.fire_effect.specs.declared.output.Key.{Key}
use Rattle.fire_effect.specs.declared.output.Outputs.{Outputs}
use Rattle.rules.specs.declared.answer.Refusal.{Refusal}
use Rattle.rules.specs.declared.answer.Refusal.TheVariants.{LedgerFull, SecondToken}
use Rattle.fire_outputs.specs.Outputs.{token_out, OpenKeys}

unfoldable pub is_taken : List Token → Key → Bool
is_taken ts k = is_some (first_from (stands_at k.tag k.port) 0 ts)

unfoldable pub same_keys : Key → Key → Bool
same_keys a b = eqb a.port b.port && same_tag a.tag b.tag

unfoldable pub any_taken_of : List Token → Outputs → Bool
any_taken_of ts o =
    cond (eqb o.count 0) false
    (cond (is_taken ts o.first) true
    (cond (eqb o.count 1) false
    (cond (same_keys o.first o.second) true (is_taken ts o.second))))

-- a slot of the second of two outputs, as it is once the first has arrived as the token at place `used`
abbrev pub SlotBeside : (first second : Key) → (s : Slot) → (used : ℕ) → (s' : Slot) → Type 0
SlotBeside j k s used s' = (ts : List Token) (x : Content) → length ts ≡ used → (j.port < 2) × (k.port < 2) → same_keys j k ≡ false
    → Free ts j.tag j.port → Open ts k.tag k.port s → Open (ts ++ token_out x j ∷ []) k.tag k.port s'

-- refusal 8, then 9
pub data Verdict : Type 0 where
  Yes : Verdict
  No : Refusal → Verdict

unfoldable pub admitted_of : (capacity : ℕ) → List Token → Outputs → Verdict
admitted_of capacity ts o =
    cond (ltb capacity (length ts + o.count)) (No LedgerFull)
    (cond (any_taken_of ts o) (No SecondToken) Yes)

-- the code's answer is the verdict, with the slots where the outputs may arrive
abbrev pub AdmittedAs : Result (Slot × Slot) Refusal → Verdict → List Token → Outputs → Type 0
AdmittedAs (Ok slots) v ts o = (v ≡ Yes) × OpenKeys ts o slots.0 slots.1
AdmittedAs (Err r) v ts o = v ≡ No r
