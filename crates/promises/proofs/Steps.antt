-- What each step of a history does to a page of u used marks; so that a property which the four changes keep holds after every history.
use Rattle.std.proofs.Common.{◌≡◌, ℕ, zero, suc, ◌+◌, ◌-◌, ◌<◌, ◌≤◌, true, false, List, [], ◌∷◌, ◌++◌, length, sym, refl, ap, ◌∙◌, subst, ap₂, ⊎_elim, arith}
use Rattle.std.proofs.Math.Decide.{ℕ_discrete, dec_le}
use Rattle.outcomes.specs.Outcome.{outcome_of}
use Rattle.outcomes.proofs.Outcomes.{exactly}
use Rattle.keyed.specs.Sha2.{sha2}
use Rattle.marks.specs.Page.{used, WellFormed, Serves, Fits}
use Rattle.marks.specs.Marking.{reserve_refusals, reserve_of, MarkEnd, mark_of}
use Rattle.marks.proofs.Ordered.{page_of}
use Rattle.marks.specs.declared.Reserved.{Reserved}
use Rattle.marks.proofs.Pages.{page_counted, page_next}
use Rattle.marks.proofs.Answers.{reserve_pending, reserve_full, reserve_free, reserve_refused, reserve_done, mark_unfit, mark_again, mark_first}
use Rattle.operations.specs.Sign.{Stored, sign_refusals, SignEnd, sign_of}
use Rattle.operations.proofs.Signs as signing
use Rattle.promises.specs.History.{first_index, end_index, honest, lent, Call, kind_of, call_of, Given, given, given_by, State, state, Step, whole, cut, restart, after_call, step, run, restarts}
use Rattle.promises.proofs.Phases.{signature_at, Property, Preserved, Reached}
use Rattle.promises.specs.declared.Kind.{Kind}
use Rattle.promises.specs.declared.Kind.TheVariants.{Reserving, Marking, Signing}

-- the state that an answer leads to
abbrev pub reserved_state : ℕ → List Given → Reserved → State
reserved_state u gs r = state (page_of u) r.session gs

abbrev pub marked_state : List Given → MarkEnd → State
marked_state gs e = state e.page e.answer.session gs

abbrev pub signed_state : ℕ → List Given → List ℕ → SignEnd → State
signed_state u gs m e = state (page_of u) e.answer.session (given_by Signing m e.answer.outcome e.out ++ gs)

-- from a page of u used marks
module _ (u s : ℕ) (gs : List Given) (most : u ≤ 1024) where
  pub well : WellFormed (page_of u)
  well = (page_counted u most).0

  pub count : used (page_of u) ≡ u
  count = (page_counted u most).1

  serves : Serves first_index (page_of u)
  serves = (well, omega arith)

  pub reserve_next : s ≡ 0 → u < 1024 → reserved_state u gs (reserve_of first_index end_index (page_of u) s) ≡ state (page_of u) (suc u) gs
  reserve_next z h =
      ap (reserved_state u gs) (sym (reserve_done first_index end_index (page_of u) s u count (reserve_free first_index end_index (page_of u) s u serves count z h)))
      ∙ ap (λ (k : ℕ). state (page_of u) k gs) (omega arith)

  reserve_refuses : (n : ℕ) → (n ≡ 0 → ⊥) → n ≡ outcome_of (reserve_refusals first_index end_index (page_of u) s) →
      reserved_state u gs (reserve_of first_index end_index (page_of u) s) ≡ state (page_of u) s gs
  reserve_refuses n z e = ap (reserved_state u gs) (sym (reserve_refused first_index end_index (page_of u) s n z e))

  reserve_none : s ≡ 0 → 1024 ≤ u → reserved_state u gs (reserve_of first_index end_index (page_of u) s) ≡ state (page_of u) s gs
  reserve_none z h = reserve_refuses 8 (λ e. omega arith) (reserve_full first_index end_index (page_of u) s u serves count z h)

  reserve_held : (s ≡ 0 → ⊥) → reserved_state u gs (reserve_of first_index end_index (page_of u) s) ≡ state (page_of u) s gs
  reserve_held n = reserve_refuses 9 (λ e. omega arith) (reserve_pending first_index end_index (page_of u) s u serves count n)

  pub mark_stores : s ≡ suc u → u < 1024 → marked_state gs (mark_of (page_of u) s) ≡ state (page_of (suc u)) s gs
  mark_stores e h =
      let q : s ≡ u + 1 = omega arith in
      ap (λ (k : ℕ). marked_state gs (mark_of (page_of u) k)) q
      ∙ ap (marked_state gs) (sym (mark_first (page_of u) u well count h))
      ∙ ap₂ (λ (p : List ℕ) (k : ℕ). state p k gs) (page_next u h) (sym q)

  pub mark_stored : s ≡ u → 1 ≤ s → marked_state gs (mark_of (page_of u) s) ≡ state (page_of u) s gs
  mark_stored e h = ap (marked_state gs) (sym (mark_again (page_of u) s u well count (h, omega arith) (sym e)))

  pub mark_refused : (s ≡ suc u → u < 1024 → ⊥) → (s ≡ u → 1 ≤ s → ⊥) → marked_state gs (mark_of (page_of u) s) ≡ state (page_of u) s gs
  mark_refused n k = ap (marked_state gs) (sym (mark_unfit (page_of u) s u well count unfit))
    where
      unfit : Fits (page_of u) s → ⊥
      unfit f =
          let one : 1 ≤ s = f.0.0 in
          let top : s ≤ 1024 = f.0.1 in
          ⊎_elim (λ e. let q : u ≡ s - 1 = sym count ∙ e in n (omega arith) (omega arith)) (λ e. k (sym e ∙ count) one) f.1

  -- signing, by the outcome of its refusals
  module _ (secret m out : List ℕ) where
    pub sign_gives : (v : ℕ) → s ≡ suc v → outcome_of (sign_refusals sha2 secret (page_of u) s m out) ≡ 0 →
        signed_state u gs m (sign_of secret (page_of u) s m out) ≡ state (page_of u) 0 (given m (signature_at secret v m) ∷ gs)
    sign_gives v e o =
        let q : s - 1 ≡ v = omega arith in
        ap (signed_state u gs m) (sym (signing.sign_done secret (page_of u) s m out _ o (ap (λ (k : ℕ). signature_at secret k m) (sym q))))

    pub sign_holds : (o : ℕ) → suc o ≡ outcome_of (sign_refusals sha2 secret (page_of u) s m out) →
        signed_state u gs m (sign_of secret (page_of u) s m out) ≡ state (page_of u) s gs
    sign_holds o e = ap (signed_state u gs m) (sym (signing.sign_refused secret (page_of u) s m out (suc o) e (λ z. omega arith)))

    -- where nothing refuses, the message is short, and index s - 1 is pending with its mark stored
    sign_needs : outcome_of (sign_refusals sha2 secret (page_of u) s m out) ≡ 0 → (length m ≤ 65536) × Stored (page_of u) s
    unfolding sign_refusals
    sign_needs o = let n = (exactly (sign_refusals sha2 secret (page_of u) s m out) refl).clear o in (n.1.1.0, n.1.1.1.1.1.0)

-- a property that the four changes keep
module _ (secret : List ℕ) (P : Property) (keeps : Preserved secret P) where
  reached : (n u s : ℕ) (gs : List Given) (st : State) → u ≤ 1024 → st ≡ state (page_of u) s gs → P n u s gs → Reached P n st
  reached n u s gs st h e p = subst (Reached P n) (sym e) (record { u = u; most = h; is_page = refl; holds = p })

  module _ (n u s : ℕ) (gs : List Given) (most : u ≤ 1024) (p : P n u s gs) where
    at : {t : ℕ} → s ≡ t → P n u t gs
    at e = subst (λ (k : ℕ). P n u k gs) e p

    reserve_keeps : Reached P n (reserved_state u gs (reserve_of first_index end_index (page_of u) s))
    reserve_keeps = go (ℕ_discrete s 0) (dec_le 1024 u)
      where
        go : Dec (s ≡ 0) → Dec (1024 ≤ u) → Reached P n (reserved_state u gs (reserve_of first_index end_index (page_of u) s))
        go (yes z) (yes f) = reached n u s gs _ most (reserve_none u s gs most z f) p
        go (yes z) (no f) =
            reached n u (suc u) gs _ most (reserve_next u s gs most z (omega arith)) (keeps.reserves n u gs (omega arith) (at z))
        go (no z) d = reached n u s gs _ most (reserve_held u s gs most z) p

    mark_keeps : Reached P n (marked_state gs (mark_of (page_of u) s))
    mark_keeps = go (ℕ_discrete s (suc u)) (dec_le 1024 u) (ℕ_discrete s u) (dec_le 1 s)
      where
        go : Dec (s ≡ suc u) → Dec (1024 ≤ u) → Dec (s ≡ u) → Dec (1 ≤ s) → Reached P n (marked_state gs (mark_of (page_of u) s))
        go (yes e) (no f) d b =
            reached n (suc u) s gs _ (omega arith) (mark_stores u s gs most e (omega arith))
            (subst (λ (k : ℕ). P n (suc u) k gs) (sym e) (keeps.marks n u gs (omega arith) (at e)))
        go (yes e) (yes f) d b = reached n u s gs _ most (mark_refused u s gs most (λ q h. omega arith) (λ q h. omega arith)) p
        go (no e) f (yes d) (yes b) = reached n u s gs _ most (mark_stored u s gs most d b) p
        go (no e) f (yes d) (no b) = reached n u s gs _ most (mark_refused u s gs most (λ q h. e q) (λ q h. b h)) p
        go (no e) f (no d) b = reached n u s gs _ most (mark_refused u s gs most (λ q h. e q) (λ q h. d q)) p

    sign_keeps : (m out : List ℕ) → Reached P n (signed_state u gs m (sign_of secret (page_of u) s m out))
    sign_keeps m out = go (outcome_of (sign_refusals sha2 secret (page_of u) s m out)) refl
      where
        go : (o : ℕ) → o ≡ outcome_of (sign_refusals sha2 secret (page_of u) s m out) →
            Reached P n (signed_state u gs m (sign_of secret (page_of u) s m out))
        go (suc o) e = reached n u s gs _ most (sign_holds u s gs most secret m out o e) p
        go zero e =
            let k = sign_needs u s gs most secret m out (sym e) in
            let one : 1 ≤ s = k.1.0.0 in
            let q : u ≡ s = sym (page_counted u most).1 ∙ k.1.1 in
            let v : ℕ = s - 1 in
            let es : s ≡ suc v = omega arith in
            let eu : u ≡ suc v = q ∙ es in
            reached n u 0 _ _ most (sign_gives u s gs most secret m out v es (sym e))
            (subst (λ (k : ℕ). P n k 0 (given m (signature_at secret v m) ∷ gs)) (sym eu)
            (keeps.signs n v gs m (omega arith) k.0 (subst (λ (k : ℕ). P n k (suc v) gs) eu (at es))))

    call_keeps : (k : Kind) (m out : List ℕ) → Reached P n (after_call (lent k m out) (kind_of (honest secret) k m out (page_of u) s) gs)
    call_keeps Reserving m out = reserve_keeps
    call_keeps Marking m out = mark_keeps
    call_keeps Signing m out = sign_keeps m out

  restart_keeps : (n : ℕ) (st : State) → Reached P n st → Reached P (suc n) (state st.page 0 st.given)
  restart_keeps n st r =
      record { u = r.u; most = r.most; is_page = r.is_page; holds = keeps.restarts n r.u st.session st.given r.holds }

  whole_keeps : (c : Call) (n : ℕ) (st : State) → Reached P n st →
      Reached P n (after_call c (kind_of (honest secret) c.kind c.message c.out st.page st.session) st.given)
  whole_keeps c n st r =
      subst (λ (p : List ℕ). Reached P n (after_call c (kind_of (honest secret) c.kind c.message c.out p st.session) st.given))
      (sym r.is_page) (call_keeps n r.u st.session st.given r.most r.holds c.kind c.message c.out)

  -- a call that was cut after it stored what it stores: marking alone stores
  cut_keeps : (k : Kind) (m out : List ℕ) (n : ℕ) (st : State) → Reached P n st →
      Reached P (suc n) (state (kind_of (honest secret) k m out st.page st.session).page 0 st.given)
  cut_keeps Reserving m out n st r = restart_keeps n st r
  cut_keeps Marking m out n st r = restart_keeps n _ (whole_keeps (lent Marking m out) n st r)
  cut_keeps Signing m out n st r = restart_keeps n st r

  -- it holds after every history
  pub carried : (xs : List Step) (n : ℕ) (st : State) → Reached P n st → Reached P (n + restarts xs) (run (honest secret) xs st)
  unfolding run step restarts call_of
  carried [] n st r = subst (λ (k : ℕ). Reached P k st) (omega arith) r
  carried (whole c ∷ xs) n st r = carried xs n _ (whole_keeps c n st r)
  carried (cut c true ∷ xs) n st r =
      subst (λ (k : ℕ). Reached P k (run (honest secret) (cut c true ∷ xs) st)) (omega arith)
      (carried xs (suc n) _ (cut_keeps c.kind c.message c.out n st r))
  carried (cut c false ∷ xs) n st r =
      subst (λ (k : ℕ). Reached P k (run (honest secret) (cut c false ∷ xs) st)) (omega arith) (carried xs (suc n) _ (restart_keeps n st r))
  carried (restart ∷ xs) n st r =
      subst (λ (k : ℕ). Reached P k (run (honest secret) (restart ∷ xs) st)) (omega arith) (carried xs (suc n) _ (restart_keeps n st r))
