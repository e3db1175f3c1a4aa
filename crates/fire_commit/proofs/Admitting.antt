-- The machine's tests of the outputs of a firing are those of the records. Assumes nothing.
use Prim.Native.Nat.{ℕ, zero, suc, ◌+◌, ◌≤◌}
use mathlib.Core.Path.{◌≡◌, refl}
use mathlib.Core.Bool.{Bool, true, false, ◌||◌, cond}
use mathlib.Core.List.{List, [], ◌∷◌, ◌++◌, map}
use native.Mathlib.Omega.{arith}
use lib.Dec.{eqb, ltb}
use lib.IntN.{ℤ}
use lib.ListN.{length, length-map}
use Rattle.record.specs.declared.array.NamedArray.{NamedArray}
use Rattle.record.specs.declared.tag.Tag.{Tag}
use Rattle.record.specs.declared.token.Token as Record
use Rattle.record.specs.declared.token.Content.TheVariants.{Deferred}
use Rattle.record.specs.declared.cell.Cell as RecordCell
use Rattle.record.specs.declared.instruction.Instruction.{Instruction}
use Rattle.record.specs.TokensAndTags.{stands_at}
use Rattle.machine.specs.Machine.{Machine, Content, Cell, Fired, fired, not_fired, when, is_there, output, same_key, among, key_taken, any_taken, exceeds, admit, Ledger}
use Rattle.machine.proofs.View.{when_yes, when_no}
use Rattle.rules.specs.declared.answer.Refusal.{Refusal}
use Rattle.rules.specs.declared.answer.Refusal.TheVariants.{LedgerFull, SecondToken}
use Rattle.rules.specs.InstructionSet.{machine_of}
use Rattle.rules.specs.Run.{token_held}
use Rattle.std.specs.Prelude.{Option, Some, None, is_some}
use Rattle.store_chains.specs.Search.{first_from}
use Rattle.abstraction.specs.States.{no_token, state_held}
use Rattle.abstraction.proofs.Keys.{stands, not_stands, found_content, held_find}
use Rattle.fire_effect.specs.declared.output.Key.{Key}
use Rattle.fire_effect.specs.declared.output.Outputs.{Outputs}
use Rattle.fire_effect.specs.Effects.{key_held, keys_held, output_keys}
use Rattle.fire_commit.specs.Admitted.{is_taken, same_keys, any_taken_of, Verdict, Yes, No, admitted_of}

-- what becomes of a firing
abbrev pub by_admitted : Verdict → Fired Refusal Tag ℤ → Fired Refusal Tag ℤ
by_admitted Yes f = f
by_admitted (No r) f = not_fired r

by_tests : (a b : Bool) (f : Fired Refusal Tag ℤ)
    → cond a (not_fired LedgerFull) (cond b (not_fired SecondToken) f) ≡ by_admitted (cond a (No LedgerFull) (cond b (No SecondToken) Yes)) f
by_tests true b f = refl
by_tests false true f = refl
by_tests false false f = refl

keys_count : (n : ℕ) (j k : Key) → n ≤ 2 → length (keys_held n j k) ≡ n
keys_count zero j k h = refl
keys_count (suc zero) j k h = refl
keys_count (suc (suc zero)) j k h = refl
keys_count (suc (suc (suc n))) j k h = absurd (omega arith)

found_there : (ts : List Record.Token) (f : Option ℕ) → is_there (found_content no_token ts f) ≡ is_some f
found_there ts (Some i) = refl
found_there ts None = refl

or_one : (a : Bool) → (a || false || false) ≡ cond a true false
or_one true = refl
or_one false = refl

or_two : (a b c : Bool) → (a || b || (c || false || false)) ≡ cond a true (cond b true c)
or_two true b c = refl
or_two false true c = refl
or_two false false true = refl
or_two false false false = refl

-- a token with this key
keyed : Key → Record.Token
keyed k = record { tag = k.tag; port = k.port; content = Deferred 0 }

-- ---- the machine and the records

module _ (g : List Instruction) (table : List NamedArray) (capacity cells : ℕ) (ts : List Record.Token) (cs : List RecordCell.Cell) where
  abbrev M : Machine
  M = machine_of g table capacity cells

  pub held_taken : (k : Key) → key_taken M (key_held k) (map token_held ts) ≡ is_taken ts k
  unfolding is_taken
  held_taken k = rw (held_find g table capacity cells k.tag k.port no_token ts) (found_there ts (first_from (stands_at k.tag k.port) 0 ts))

  held_among : (j k : Key) → among M (key_held j) (key_held k ∷ []) ≡ same_keys j k
  unfolding same_keys stands_at keyed
  held_among j k = go (same_keys j k) refl
    where
      go : (b : Bool) → same_keys j k ≡ b → when (same_key M (key_held j) (key_held k)) true false ≡ b
      go true e = when_yes (same_key M (key_held j) (key_held k)) true false (stands k.tag k.port (keyed j) e)
      go false e = when_no (same_key M (key_held j) (key_held k)) true false (not_stands k.tag k.port (keyed j) e)

  -- refusal 8
  pub held_exceeds : (o : Outputs) → o.count ≤ 2 → exceeds M (map token_held ts) (output_keys o) ≡ ltb capacity (length ts + o.count)
  held_exceeds o h = rw (length-map ts token_held, keys_count o.count o.first o.second h)

  -- refusal 9
  pub held_any_taken : (o : Outputs) → o.count ≤ 2 → any_taken M (map token_held ts) (output_keys o) ≡ any_taken_of ts o
  unfolding any_taken_of
  held_any_taken o h = go o.count h
    where
      go : (n : ℕ) → n ≤ 2 → any_taken M (map token_held ts) (keys_held n o.first o.second)
          ≡ cond (eqb n 0) false
          (cond (is_taken ts o.first) true (cond (eqb n 1) false (cond (same_keys o.first o.second) true (is_taken ts o.second))))
      go zero h = refl
      go (suc zero) h = rw (held_taken o.first) (or_one (is_taken ts o.first))
      go (suc (suc zero)) h =
          rw (held_taken o.first, held_among o.first o.second, held_taken o.second)
          (or_two (is_taken ts o.first) (same_keys o.first o.second) (is_taken ts o.second))
      go (suc (suc (suc n))) h = absurd (omega arith)

  pub held_admitted : (o : Outputs) → o.count ≤ 2 → (left : Ledger M) (cells' : List (Cell ℤ)) (x : Content ℤ)
      → admit M (state_held ts cs) left cells' x (output_keys o)
      ≡ by_admitted (admitted_of capacity ts o) (fired (record { tokens = left ++ map (output x) (output_keys o); cells = cells' }))
  unfolding admit admitted_of
  held_admitted o h left cells' x =
      rw (held_exceeds o h, held_any_taken o h) (by_tests (ltb capacity (length ts + o.count)) (any_taken_of ts o) _)
