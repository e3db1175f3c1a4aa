-- Good inputs as handles hold the state over handles from which a range run starts (`first_state_lem`). Assumes nothing.
use Rattle.std.proofs.Common.{Ok}
use Prim.Native.Nat.{ℕ, zero, suc, ◌+◌, ◌/◌, ◌%◌, ◌<◌, ◌≤◌}
use mathlib.Core.Bool.{true}
use mathlib.Core.Path.{◌≡◌, refl, sym, ap, ◌∙◌}
use mathlib.Core.List.{List, [], ◌∷◌, ◌++◌, map, append_assoc, append-nil}
use native.Mathlib.Omega.{arith}
use lib.ListN.{length, drop, replicate}
use lib.IntN.{pos}
use mir.Syntax.{w32}
use mir.Facts.{to_z_pos}
use Rattle.number.specs.Number.{signed_of}
use Rattle.number.proofs.Numbers.{number32_bytes, fits32}
use Rattle.buffer.specs.Rows.{rows}
use Rattle.record.specs.declared.instruction.Instruction.{Instruction}
use Rattle.record.specs.TokensAndTags.{content_of, most_tokens}
use Rattle.record.specs.TokensAndTags as Tokens
use Rattle.record.specs.Widths.{token_width, range_token_width}
use Rattle.machine.specs.Machine.{live, absent}
use Rattle.machine.proofs.Kept.{Each}
use Rattle.rules.specs.Check.{good_input}
use Rattle.rules.specs.Run.{token_held, first_state}
use Rattle.rules.specs.RangeRun.{decode_range, check_range_inputs}
use Rattle.rules.specs.RangeHandles.{numbered, first_handles}
use Rattle.rules.proofs.Ranges.{zero_state, good_rows, sixth_passed}
use Rattle.range_inputs.specs.Handles.{handle_bytes, handles_from, handles_of}
use Rattle.range_inputs.proofs.Rows.{row_past, handles_count}

small : (h : ℕ) → h < 2147483648 → signed_of (h % 4294967296) ≡ pos h
unfolding signed_of
small h k = rw (fits32 h (omega arith)) (to_z_pos w32 {n = h} (omega arith))

-- a good input, live with its handle
first_token : (g : List Instruction) (h : ℕ) (l rest : List ℕ) → good_input g l ≡ true → h < 2147483648
    → token_held (Tokens.decode_token (handle_bytes h l ++ rest)) ≡ record { key = (decode_range l).key; content = live (pos h) }
unfolding Tokens.decode_token decode_range handle_bytes content_of
first_token g h l rest e k = rw (zero_state g l e, number32_bytes h [], small h k)

first_tokens : (g : List Instruction) (h n : ℕ) (l rest : List ℕ) → Each (λ b. good_input g b ≡ true) (rows range_token_width (λ b. b) n l) → h + n < 2147483648
    → map token_held (rows token_width Tokens.decode_token n (handles_from h n l ++ rest)) ≡ numbered h (rows range_token_width decode_range n l)
unfolding handles_from
first_tokens g h zero l rest e k = refl
first_tokens g h (suc n) l rest e k =
    let more = handles_from (suc h) n (drop range_token_width l) in
    let here = first_token g h l (more ++ rest) e.0 (omega arith) in
    let there = first_tokens g (suc h) n (drop range_token_width l) rest e.1 (omega arith) in
    rw (append_assoc (handle_bytes h l) more rest, row_past h l (more ++ rest)) (λ i. here i ∷ there i)

pub first_state_lem : (g : List Instruction) (capacity cells : ℕ) (inputs : List ℕ) → length inputs / range_token_width ≤ most_tokens → check_range_inputs g capacity inputs ≡ Ok tt
    → first_state (handles_of inputs) cells ≡ first_handles inputs cells
unfolding first_state first_handles handles_of
first_state_lem g capacity cells inputs few e =
    let n = length inputs / range_token_width in
    let good = good_rows g n 0 inputs (sixth_passed g capacity inputs e) in
    let all : map token_held (rows token_width Tokens.decode_token n (handles_from 1 n inputs)) ≡ numbered 1 (rows range_token_width decode_range n inputs) =
    ap (λ (l : List ℕ). map token_held (rows token_width Tokens.decode_token n l)) (sym (append-nil (handles_from 1 n inputs))) ∙ first_tokens g 1 n inputs [] good (omega arith) in
    rw (handles_count inputs) (λ i. record { tokens = all i; cells = replicate cells absent })
