-- Laws of chains, over any suite: walks compose, and signing and checking meet at the chain's end.
use Rattle.std.proofs.Common.{◌≡◌, ℕ, zero, suc, ◌+◌, ◌-◌, ◌≤◌, List, [], get_or, refl, ap, ◌∙◌, add_assoc, arith}
use Rattle.lists.specs.Lists.{turns}
use Rattle.lists.proofs.Tabs.{tab_ext, get_or-tab}
use Rattle.lists.proofs.Turns.{turns_more, turns_add, turns_ext}
use Rattle.rfc8391.specs.Suite.{Suite, Value, Values}
use Rattle.rfc8391.specs.Address.{set_chain_address}
use Rattle.rfc8391.specs.Wots.{digits, len, len₁, step, chain, wots_pk, wots_sign, wots_pk_from_sig}
use Rattle.rfc8391.specs.declared.Address.{Address}
use Rattle.rfc8391.proofs.Digits.{digit_small}
use Rattle.rfc8391.proofs.Values.{tab_values}

module _ (S : Suite) (seed : List ℕ) where
  -- no step gives the value back
  pub chain_none : (a : Address) (x : List ℕ) (i : ℕ) → chain S seed a x i 0 ≡ x
  unfolding chain turns
  chain_none a x i = refl

  -- one step more of a walk
  pub chain_more : (a : Address) (x : List ℕ) (i k : ℕ) {v r : List ℕ} → v ≡ chain S seed a x i k → r ≡ step S seed a (i + k) v → r ≡ chain S seed a x i (k + 1)
  unfolding chain
  chain_more a x i k ev er = turns_more k _ x ev er

  -- s steps from i, and then t steps from i + s, are s + t steps from i
  pub chain_splits : (a : Address) (x : List ℕ) (i s t : ℕ) → chain S seed a (chain S seed a x i s) (i + s) t ≡ chain S seed a x i (s + t)
  unfolding chain
  chain_splits a x i s t =
      turns_ext t _ _ _ (λ k q v. ap (λ (j : ℕ). step S seed a j v) (add_assoc i s k))
      ∙ turns_add s t (λ k v. step S seed a (i + k) v) x

  -- a step gives a value, and so does a walk from one
  pub step_value : (a : Address) (j : ℕ) (x : List ℕ) → Value S.n (step S seed a j x)
  unfolding step
  step_value a j x = S.F_value _ _

  pub chain_value : (a : Address) (x : List ℕ) (i s : ℕ) → Value S.n x → Value S.n (chain S seed a x i s)
  unfolding chain turns
  chain_value a x i zero h = h
  chain_value a x i (suc s) h = step_value a (i + s) _

  -- a signature's chain values, and a public key's, are values where the secret ones are
  pub sign_values : (a : Address) (m : List ℕ) (sk : ℕ → List ℕ) → ((c : ℕ) → Value S.n (sk c)) → Values S.n (wots_sign S seed a m sk)
  unfolding wots_sign
  sign_values a m sk h = tab_values S.n (len S) _ (λ c q. chain_value _ (sk c) 0 _ (h c))

  pub pk_values : (a : Address) (sk : ℕ → List ℕ) → ((c : ℕ) → Value S.n (sk c)) → Values S.n (wots_pk S seed a sk)
  unfolding wots_pk
  pk_values a sk h = tab_values S.n (len S) _ (λ c q. chain_value _ (sk c) 0 15 (h c))

  -- secret values that agree give the same public key, and the same signature
  pub pk_ext : (a : Address) (sk sk' : ℕ → List ℕ) → ((c : ℕ) → sk c ≡ sk' c) → wots_pk S seed a sk ≡ wots_pk S seed a sk'
  unfolding wots_pk
  pk_ext a sk sk' e = tab_ext (len S) _ _ (λ c q. ap (λ (x : List ℕ). chain S seed (set_chain_address a c) x 0 15) (e c))

  pub sign_ext : (a : Address) (m : List ℕ) (sk sk' : ℕ → List ℕ) → ((c : ℕ) → sk c ≡ sk' c) → wots_sign S seed a m sk ≡ wots_sign S seed a m sk'
  unfolding wots_sign
  sign_ext a m sk sk' e =
      tab_ext (len S) _ _ (λ c q. ap (λ (x : List ℕ). chain S seed (set_chain_address a c) x 0 (get_or (digits (len₁ S) m) c 0)) (e c))

  -- one chain's signing walk and checking walk meet at its end
  ends_meet : (a : Address) (x : List ℕ) (b : ℕ) → b ≤ 15 → chain S seed a (chain S seed a x 0 b) b (15 - b) ≡ chain S seed a x 0 15
  ends_meet a x b h =
      let z : b ≡ 0 + b = omega arith in
      let e : b + (15 - b) ≡ 15 = omega arith in
      ap (λ (j : ℕ). chain S seed a (chain S seed a x 0 b) j (15 - b)) z ∙ chain_splits a x 0 b (15 - b) ∙ ap (chain S seed a x 0) e

  -- the public key from a signature is that of the secret values
  pub signature_leads_to_key : (a : Address) (m : List ℕ) (sk : ℕ → List ℕ) → wots_pk_from_sig S seed a m (wots_sign S seed a m sk) ≡ wots_pk S seed a sk
  unfolding wots_pk_from_sig wots_sign wots_pk
  signature_leads_to_key a m sk =
      tab_ext (len S) _ _ (λ c h.
      let b : ℕ = get_or (digits (len₁ S) m) c 0 in
      ap (λ (x : List ℕ). chain S seed (set_chain_address a c) x b (15 - b)) (get_or-tab (len S) _ [] c h)
      ∙ ends_meet (set_chain_address a c) (sk c) b (digit_small (len₁ S) m c))
