-- What a restart does to marks and indices, by two properties that every step keeps.
use Rattle.std.proofs.Common.{◌≡◌, ℕ, suc, ◌+◌, ◌<◌, ◌≤◌, true, false, List, [], ◌∷◌, ◌++◌, length, sym, refl, ap, ◌∙◌, subst, ap₂, arith}
use Rattle.std.proofs.lemmas.Bool.{false≢true}
use Rattle.keyed.specs.Sha2.{sha2}
use Rattle.records.specs.Records.{record_from}
use Rattle.marks.specs.Page.{mark_used}
use Rattle.marks.specs.Marking.{reserve_of}
use Rattle.promises.specs.History.{first_index, end_index, honest, lent, call_of, State, Step, whole, cut, restart, step, run, restarts, start}
use Rattle.promises.specs.Kept.{Without, Restarting, Restarted}
use Rattle.promises.proofs.Phases.{Preserved, Reached, Phase, idle, pending, marked, Invariant, AtLeast, Lost}
use Rattle.promises.specs.declared.Kind.TheVariants.{Reserving}
use Rattle.promises.proofs.Honest.{signature_index}
use Rattle.promises.proofs.Steps.{reserve_next, carried}
use Rattle.promises.proofs.Story.{mark_below, invariant}

module _ (secret : List ℕ) where
  -- one history after another
  run_on : (xs ys : List Step) (st : State) → run (honest secret) (xs ++ ys) st ≡ run (honest secret) ys (run (honest secret) xs st)
  unfolding run
  run_on [] ys st = refl
  run_on (x ∷ xs) ys st = run_on xs ys (step (honest secret) x st)

  -- used marks do not get fewer
  least : (k : ℕ) → Preserved secret (AtLeast k)
  least k =
      record {
        reserves = λ n u gs h p. p;
        marks = λ n u gs h p. omega arith;
        signs = λ n v gs m h w p. p;
        restarts = λ n u s gs p. p;
      }

  -- a lost index stays lost
  lost : (i : ℕ) → Preserved secret (Lost i)
  lost i =
      record {
        reserves = λ n u gs h p. record { marked = p.marked; other = λ e. omega (arith, p.marked); without = p.without };
        marks = λ n u gs h p. record { marked = omega (arith, p.marked); other = p.other; without = p.without };
        signs = λ n v gs m h w p.
            let x = signature_index sha2 (record_from 32 secret) v m h in
            record { marked = p.marked; other = λ e. omega arith; without = (λ e. p.other (ap suc (sym x ∙ e)), p.without) };
        restarts = λ n u s gs p. record { marked = p.marked; other = λ e. omega arith; without = p.without };
      }

  -- a restart empties the session and gives nothing
  emptied : (x : Step) (st : State) → Restarting x → ((step (honest secret) x st).session ≡ 0) × ((step (honest secret) x st).given ≡ st.given)
  unfolding step
  emptied (whole c) st q = absurd q
  emptied (cut c b) st q = (refl, refl)
  emptied restart st q = (refl, refl)

  -- of a history with u used marks, one that goes on has at least as many
  grown : (xs ys : List Step) (u : ℕ) → u ≤ (invariant secret xs).u →
      Reached (AtLeast u) (0 + restarts ys) (run (honest secret) (xs ++ ys) start)
  grown xs ys u h =
      let r = invariant secret xs in
      subst (Reached (AtLeast u) (0 + restarts ys)) (sym (run_on xs ys start))
      (carried secret (AtLeast u) (least u) ys 0 _ (record { u = r.u; most = r.most; is_page = r.is_page; holds = h }))

  module _ (xs : List Step) where
    abbrev st : State
    st = run (honest secret) xs start

    stays_used : (ys : List Step) (i : ℕ) → i < 1024 → mark_used st.page i ≡ true →
        mark_used (run (honest secret) (xs ++ ys) start).page i ≡ true
    stays_used ys i h e =
        let r = invariant secret xs in
        let b = grown xs ys (suc i) ((mark_below st.page r.u i r.is_page h).0 e) in
        (mark_below _ b.u i b.is_page h).1 b.holds

    module _ (x : Step) (q : Restarting x) where
      abbrev st' : State
      st' = run (honest secret) (xs ++ (x ∷ [])) start

      is_next : st' ≡ step (honest secret) x st
      unfolding run
      is_next = run_on xs (x ∷ []) start

      empty : st'.session ≡ 0
      empty = ap (λ (w : State). w.session) is_next ∙ (emptied x st q).0

      run_next : (ys : List Step) → run (honest secret) (xs ++ (x ∷ ys)) start ≡ run (honest secret) ys st'
      unfolding run
      run_next ys = run_on xs (x ∷ ys) start ∙ ap (run (honest secret) ys) (sym is_next)

      stays_lost : (ys : List Step) (i : ℕ) → i < 1024 → mark_used st'.page i ≡ true → Without i st.given →
          Without i (run (honest secret) (xs ++ (x ∷ ys)) start).given
      stays_lost ys i h e w =
          let r = invariant secret (xs ++ (x ∷ [])) in
          let g : st.given ≡ st'.given = sym (ap (λ (w : State). w.given) is_next ∙ (emptied x st q).1) in
          let k : Lost i 0 r.u st'.session st'.given =
          record {
            marked = (mark_below st'.page r.u i r.is_page h).0 e;
            other = λ z. omega (arith, empty);
            without = subst (Without i) g w;
          } in
          let b = carried secret (Lost i) (lost i) ys 0 st' (record { u = r.u; most = r.most; is_page = r.is_page; holds = k }) in
          subst (λ (w : State). Without i w.given) (sym (run_next ys)) b.holds.without

      again : (i : ℕ) → st.session ≡ suc i → mark_used st'.page i ≡ false → (m out : List ℕ) →
          (run (honest secret) (xs ++ (x ∷ whole (lent Reserving m out) ∷ [])) start).session ≡ suc i
      unfolding run step call_of
      again i e f m out = go r.holds.phase
        where
          r : Reached (Invariant secret) (restarts xs) st
          r = invariant secret xs

          b : Reached (AtLeast r.u) (0 + restarts (x ∷ [])) st'
          b = grown xs (x ∷ []) r.u (omega arith)

          -- with as many used marks as the index says, reserving gives that index
          given_again : i < 1024 → i ≤ r.u → (run (honest secret) (xs ++ (x ∷ whole (lent Reserving m out) ∷ [])) start).session ≡ suc i
          given_again h l =
              let n : i < b.u → ⊥ = λ k. false≢true (sym f ∙ (mark_below st'.page b.u i b.is_page h).1 k) in
              let is_index : b.u ≡ i = omega (arith, b.holds) in
              ap (λ (w : State). w.session) (run_next (whole (lent Reserving m out) ∷ []))
              ∙ ap₂ (λ (p : List ℕ) (s : ℕ). (reserve_of first_index end_index p s).session) b.is_page empty
              ∙ ap (λ (w : State). w.session) (reserve_next b.u 0 [] b.most refl (omega arith))
              ∙ ap suc is_index

          go : Phase secret (length st.given + restarts xs) r.u st.session st.given →
              (run (honest secret) (xs ++ (x ∷ whole (lent Reserving m out) ∷ [])) start).session ≡ suc i
          go (idle z a l) = absurd (omega arith)
          go (pending p h a l) = given_again (omega arith) (omega arith)
          go (marked v p g a l) = given_again (omega (arith, r.most)) (omega arith)

  pub restarted : (xs ys : List Step) → Restarted (honest secret) xs ys
  restarted xs ys = record { stored = stays_used xs ys; lost = λ x q. stays_lost xs x q ys; again = again xs }
