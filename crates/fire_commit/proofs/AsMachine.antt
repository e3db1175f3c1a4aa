-- What comes of an action and its outputs by the definitions over records is what the machine's `commit` gives. Assumes nothing.
use Prim.Native.Nat.{ℕ, ◌≤◌}
use mathlib.Core.Path.{◌≡◌, refl, sym, ap, ◌∙◌}
use mathlib.Core.Bool.{cond}
use mathlib.Core.List.{List, ◌++◌, map, map-append}
use mathlib.Core.Logic.{⊎_elim}
use lib.ListN.{get_or, set}
use lib.IntN.{ℤ, pos}
use Rattle.record.specs.declared.array.NamedArray.{NamedArray}
use Rattle.record.specs.declared.tag.Tag.{Tag}
use Rattle.record.specs.declared.token.Token as Record
use Rattle.record.specs.declared.token.Content as RecordContent
use Rattle.record.specs.declared.token.Content.TheVariants.{Live}
use Rattle.record.specs.declared.cell.Cell as RecordCell
use Rattle.record.specs.declared.cell.Cell.TheVariants.{Absent, Waiting, Present}
use Rattle.record.specs.declared.instruction.Instruction.{Instruction}
use Rattle.store_chains.specs.Deferred.{woken}
use Rattle.machine.specs.Machine.{Machine, Cell, Content, Fired, fired, not_fired, live, present, changed, output, fill, if_present, cell_read, content_read, spend_at, admit, commit, Ledger}
use Rattle.machine.specs.Orders.{Distinct}
use Rattle.rules.specs.declared.answer.Refusal.{Refusal}
use Rattle.rules.specs.declared.answer.Refusal.TheVariants.{SecondWrite}
use Rattle.rules.specs.InstructionSet.{arity_in, machine_of}
use Rattle.rules.specs.Run.{content_held, token_held}
use Rattle.fire_effect.specs.declared.output.Outputs.{Outputs}
use Rattle.fire_effect.specs.declared.operate.Action.{Action}
use Rattle.fire_effect.specs.declared.operate.Action.TheVariants.{Send, Read, Write}
use Rattle.fire_effect.specs.Effects.{output_keys, action_held}
use Rattle.abstraction.specs.States.{cell_held, state_held}
use Rattle.fire_operands.proofs.AsMachine.{Places}
use Rattle.fire_outputs.specs.Outputs.{spent_at, output_tokens, cells_fetched, content_fetched, is_present}
use Rattle.fire_outputs.proofs.Spent.{map_map, spent_one_lem, spent_two}
use Rattle.fire_outputs.proofs.AsMachine.{outputs_held, woken_held, cell_held_lem, set_held, fetched_cell, fetched_content}
use Rattle.fire_commit.specs.Admitted.{Verdict, Yes, No, admitted_of}
use Rattle.fire_commit.specs.Commit.{Committed, done, refused, if_admitted, committed_of}
use Rattle.fire_commit.proofs.Admitting.{by_admitted, held_admitted}

-- in the terms of the machine
abbrev pub fired_of : Committed → Fired Refusal Tag ℤ
fired_of (done ts cs) = fired (state_held ts cs)
fired_of (refused r) = not_fired r

admitted_held : (a : Verdict) (x : Committed) (f : Fired Refusal Tag ℤ) → f ≡ fired_of x → by_admitted a f ≡ fired_of (if_admitted a x)
unfolding if_admitted
admitted_held Yes x f e = e
admitted_held (No r) x f e = refl

module _ (g : List Instruction) (table : List NamedArray) (capacity cells : ℕ) (ts : List Record.Token) (cs : List RecordCell.Cell) where
  abbrev M : Machine
  M = machine_of g table capacity cells

  -- the operands at the places that matching found are spent
  pub spent_held : (tag : Tag) (i j : ℕ) (v w : ℤ) → Distinct M (map token_held ts) → Places (arity_in g tag) ts tag i j v w → map (changed (spend_at M tag)) (map token_held ts) ≡ map token_held (spent_at i j ts)
  spent_held tag i j v w d p =
      ⊎_elim
      (λ h. spent_one_lem g table capacity cells tag i ts h.0 d p.first_found ∙ ap (λ (n : ℕ). map token_held (spent_at i n ts)) (sym h.1))
      (λ h. spent_two g table capacity cells tag i j ts h.0 d p.first_found h.1)
      p.second_found

  -- tokens and outputs in one list
  appended : (us : List Record.Token) (o : Outputs) (x : RecordContent.Content) → map token_held us ++ map (output (content_held x)) (output_keys o) ≡ map token_held (us ++ output_tokens x o)
  appended us o x = ap (λ l. map token_held us ++ l) (outputs_held o x) ∙ sym (map-append token_held us (output_tokens x o))

  -- what goes into the ledger, or is refused
  goes_in : (o : Outputs) → o.count ≤ 2 → (old : Ledger M) (us : List Record.Token) (cells' : List (Cell ℤ)) (ds : List RecordCell.Cell) (y : Content ℤ) (x : RecordContent.Content)
      → old ≡ map token_held us → cells' ≡ map cell_held ds → y ≡ content_held x
      → admit M (state_held ts cs) old cells' y (output_keys o) ≡ fired_of (if_admitted (admitted_of capacity ts o) (done (us ++ output_tokens x o) ds))
  goes_in o h old us cells' ds y x p q r =
      held_admitted g table capacity cells ts cs o h old cells' y
      ∙ admitted_held (admitted_of capacity ts o) (done (us ++ output_tokens x o) ds) _
      (λ i. fired (record { tokens = (ap (λ l. l ++ map (output y) (output_keys o)) p ∙ ap (λ z. map token_held us ++ map (output z) (output_keys o)) r ∙ appended us o x) i; cells = q i }))

  write_held : (c : RecordCell.Cell) (f : Fired Refusal Tag ℤ) (x : Committed) → f ≡ fired_of x → if_present (cell_held c) (not_fired SecondWrite) f ≡ fired_of (cond (is_present c) (refused SecondWrite) x)
  write_held Absent f x e = e
  write_held Waiting f x e = e
  write_held (Present v) f x e = refl

  pub commit_held : (tag : Tag) (i j : ℕ) (v w : ℤ) → Distinct M (map token_held ts) → Places (arity_in g tag) ts tag i j v w → (a : Action) (o : Outputs) → o.count ≤ 2
      → commit M (state_held ts cs) tag (action_held a (output_keys o)) ≡ fired_of (committed_of capacity ts cs i j a o)
  unfolding commit committed_of
  commit_held tag i j v w d p (Send x) o h = goes_in o h _ (spent_at i j ts) _ cs (live x) (Live x) (spent_held tag i j v w d p) refl refl
  commit_held tag i j v w d p (Read c) o h =
      goes_in o h _ (spent_at i j ts) _ (cells_fetched c cs) _ (content_fetched c (get_or cs c Absent)) (spent_held tag i j v w d p)
      (ap (λ y. set (map cell_held cs) c (cell_read y)) (cell_held_lem cs c) ∙ ap (λ y. set (map cell_held cs) c y) (fetched_cell (get_or cs c Absent)) ∙ set_held cs c _)
      (ap (content_read c) (cell_held_lem cs c) ∙ fetched_content c (get_or cs c Absent))
  commit_held tag i j v w d p (Write c x) o h =
      let written = admit M (state_held ts cs) (map (changed (λ k y. fill c x (spend_at M tag k y))) (map token_held ts)) (set (map cell_held cs) c (present x)) (live (pos 0)) (output_keys o) in
      ap (λ y. if_present y (not_fired SecondWrite) written) (cell_held_lem cs c)
      ∙ write_held (get_or cs c Absent) written _
      (goes_in o h _ (map (woken c x) (spent_at i j ts)) _ (set cs c (Present x)) _ (Live (pos 0))
      (sym (map_map (changed (λ k y. fill c x y)) (changed (spend_at M tag)) (map token_held ts)) ∙ ap (map (changed (λ k y. fill c x y))) (spent_held tag i j v w d p) ∙ woken_held c x (spent_at i j ts))
      (set_held cs c (Present x))
      refl)
