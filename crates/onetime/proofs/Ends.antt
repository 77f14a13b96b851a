-- Chain steps, chain values and chain ends from what the calls give, over any suite. A value stands at the front of a longer list.
use Rattle.std.proofs.Common.{◌≡◌, ℕ, ◌-◌, ◌*◌, ◌<◌, ◌≤◌, List, [], get_or, take, drop, sym, ap, ◌∙◌, zero-add, get_or-take}
use Rattle.lists.specs.Lists.{tab, parts}
use Rattle.lists.proofs.Tabs.{tab_ext, get_or-tab}
use Rattle.rfc8391.specs.Suite.{Suite, xor}
use Rattle.rfc8391.specs.Address.{set_chain_address, set_hash_address, set_key_and_mask}
use Rattle.rfc8391.specs.Wots.{prf_at, digits, len, len₁, step, chain, wots_sign, wots_pk_from_sig}
use Rattle.rfc8391.specs.declared.Address.{Address}
use Rattle.rfc8391.proofs.Digits.{digit_small, digits-front}
use Rattle.rfc8391.proofs.Values.{xor_front}

-- the digits by which signing and checking walk are those of the value at m's front, and none is over 15
module _ (S : Suite) (m d : List ℕ) (e : take (len S) d ≡ digits (len₁ S) m) where
  digit_by : (c : ℕ) → c < len S → get_or d c 0 ≡ get_or (digits (len₁ S) (take S.n m)) c 0
  digit_by c h = sym (get_or-take (len S) d c 0 h) ∙ ap (λ (l : List ℕ). get_or l c 0) (e ∙ sym (digits-front S.n m))

  pub digit_most : (c : ℕ) → c < len S → get_or d c 0 ≤ 15
  digit_most c h = rw (digit_by c h) (digit_small (len₁ S) (take S.n m) c)

module _ (S : Suite) (seed : List ℕ) where
  -- what chain c of the values leads to, by the digits d
  unfoldable pub end_from : Address → List ℕ → List ℕ → ℕ → List ℕ
  end_from a d values c = chain S seed (set_chain_address a c) (take S.n (drop (S.n * c) values)) (get_or d c 0) (15 - get_or d c 0)

  -- a walk from the start, from what the calls give
  pub chain_by : (a b : Address) (x y : List ℕ) (j k : ℕ) (r : List ℕ) → b ≡ a → y ≡ x → k ≡ j → r ≡ chain S seed b y 0 k → r ≡ chain S seed a x 0 j
  chain_by a b x y j k r eb ey ek er = rw (er, eb, ey, ek)

  -- a step, from its key, its mask and their exclusive or
  pub step_by : (a : Address) (j : ℕ) (x key mask y r : List ℕ) → S.n ≤ 32
      → take S.n key ≡ prf_at S seed (set_key_and_mask (set_hash_address a j) 0) → take S.n mask ≡ prf_at S seed (set_key_and_mask (set_hash_address a j) 1)
      → y ≡ xor 32 x mask → r ≡ S.F (take S.n key) (take S.n y) → r ≡ step S seed a j (take S.n x)
  unfolding step
  step_by a j x key mask y r h ek em ey er = rw (er, ey, xor_front S.n 32 x mask h, ek, em)

  -- the chain ends from a signature of the value m
  pub ends_from : (a : Address) (m d values : List ℕ) → take (len S) d ≡ digits (len₁ S) m
      → tab (len S) (end_from a d values) ≡ wots_pk_from_sig S seed a (take S.n m) (parts S.n (len S) 0 values)
  unfolding wots_pk_from_sig parts end_from
  ends_from a m d values e =
      tab_ext (len S) _ _ (λ c h.
      rw (digit_by S m d e c h)
      (ap (λ (x : List ℕ). chain S seed (set_chain_address a c) x (get_or (digits (len₁ S) (take S.n m)) c 0) (15 - get_or (digits (len₁ S) (take S.n m)) c 0))
      (ap (λ (i : ℕ). take S.n (drop i values)) (sym (zero-add (S.n * c))) ∙ sym (get_or-tab (len S) _ [] c h))))

  -- the chain values of the value m
  pub values_of : (a : Address) (m d : List ℕ) (sk : ℕ → List ℕ) → take (len S) d ≡ digits (len₁ S) m
      → tab (len S) (λ c. chain S seed (set_chain_address a c) (sk c) 0 (get_or d c 0)) ≡ wots_sign S seed a (take S.n m) sk
  unfolding wots_sign
  values_of a m d sk e = tab_ext (len S) _ _ (λ c h. ap (chain S seed (set_chain_address a c) (sk c) 0) (digit_by S m d e c h))
