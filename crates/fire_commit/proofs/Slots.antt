-- The slot of a second output, once the first has arrived. Assumes nothing.
use Prim.Native.Nat.{ℕ, zero, suc, ◌-◌, ◌<◌}
use mathlib.Core.Path.{◌≡◌, refl, sym, ap, ◌∙◌}
use mathlib.Core.Bool.{true, false, cond}
use mathlib.Core.List.{List, [], ◌∷◌, ◌++◌}
use native.Mathlib.Omega.{arith}
use lib.ListN.{length}
use borrow.Author.Tests.{eq-eqb}
use Rattle.record.specs.TokensAndTags.{same_tag, stands_at}
use Rattle.record.specs.declared.token.Token.{Token}
use Rattle.record.specs.declared.token.Content.{Content}
use Rattle.store_chains.specs.declared.Slot.{Slot}
use Rattle.std.specs.Prelude.{Some}
use Rattle.store_chains.specs.Search.{Free}
use Rattle.store_chains.specs.Slots.{Open}
use Rattle.store_chains.proofs.Search.{first_added, first_past, first_none_added}
use Rattle.store_chains.proofs.Index.{stands_off, stands_other_port}
use Rattle.store_enabled.proofs.Right.{tag_equal}
use Rattle.fire_effect.specs.declared.output.Key.{Key}
use Rattle.fire_outputs.specs.Outputs.{LowPortsBy, token_out, OpenKeysBy}
use Rattle.fire_commit.specs.Admitted.{same_keys}

module _ (j k : Key) (s : Slot) (ts : List Token) (x : Content) (low : (j.port < 2) × (k.port < 2)) (apart : same_keys j k ≡ false) (free : Free ts j.tag j.port) (o : Open ts k.tag k.port s) where
  abbrev out : Token
  out = token_out x j

  -- of different tags: the first is not in the way
  pub open_apart : same_tag j.tag k.tag ≡ false → Open (ts ++ out ∷ []) k.tag k.port s
  open_apart e = record {
    free = first_none_added (stands_at k.tag k.port) ts out 0 o.free (stands_off k.tag k.port out e);
    bucket = o.bucket;
    partner = o.partner ∙ sym (first_past (stands_at k.tag (1 - k.port)) ts out 0 (stands_off k.tag (1 - k.port) out e));
  }

  -- of one tag: the first is the partner
  pub open_beside : same_tag j.tag k.tag ≡ true → Open (ts ++ out ∷ []) k.tag k.port (record { bucket = s.bucket; partner = Some (length ts) })
  unfolding same_keys
  open_beside e =
      let ports : j.port ≡ k.port → ⊥ = λ q. different q in
      let both = stands_other_port k.tag k.port out low.1 low.0 e ports in
      let tag : j.tag ≡ k.tag = sym (tag_equal k.tag j.tag e) in
      let port : j.port ≡ 1 - k.port = omega (arith, ports) in
      let none : Free ts k.tag (1 - k.port) = rw (tag, port) at free in
      record {
        free = first_none_added (stands_at k.tag k.port) ts out 0 o.free both.0;
        bucket = o.bucket;
        partner = sym (first_added (stands_at k.tag (1 - k.port)) out ts none both.1);
      }
    where
      different : j.port ≡ k.port → ⊥
      different q = let z : ◌≡◌ {A = ℕ} 0 1 = ap (λ b. cond b 0 1) (rw (eq-eqb j.port k.port q, e) at apart) in absurd (omega arith)

-- ---- as many outputs as are meant

module _ (j k : Key) (n : ℕ) (Some-out : n ≡ 0 → ⊥) (low : LowPortsBy n j k) where
  pub low_first : j.port < 2
  low_first = go n Some-out low
    where
      go : (n : ℕ) → (n ≡ 0 → ⊥) → LowPortsBy n j k → j.port < 2
      go zero z w = absurd (z refl)
      go (suc zero) z w = w
      go (suc (suc n)) z w = w.0

  pub low_second : (n ≡ 1 → ⊥) → k.port < 2
  low_second more = go n Some-out more low
    where
      go : (n : ℕ) → (n ≡ 0 → ⊥) → (n ≡ 1 → ⊥) → LowPortsBy n j k → k.port < 2
      go zero z o w = absurd (z refl)
      go (suc zero) z o w = absurd (o refl)
      go (suc (suc n)) z o w = w.1

pub open_two : (ts : List Token) (n : ℕ) (j k : Key) (s t : Slot) → (n ≡ 0 → ⊥) → (n ≡ 1 → ⊥) → Open ts j.tag j.port s
    → ((x : Content) → Open (ts ++ token_out x j ∷ []) k.tag k.port t) → OpenKeysBy ts n j k s t
open_two ts zero j k s t z o a b = absurd (z refl)
open_two ts (suc zero) j k s t z o a b = absurd (o refl)
open_two ts (suc (suc n)) j k s t z o a b = (a, b)
