-- What is promised holds in every history, by an invariant over its phases.
use Rattle.std.proofs.Common.{◌≡◌, ℕ, suc, ◌+◌, ◌<◌, ◌≤◌, true, ltb, ◌↔◌, List, [], ◌∷◌, length, sym, refl, ap, ◌∙◌, subst, ap₂, arith, ltb-true, lt-ltb}
use Rattle.lists.specs.Bytes.{number}
use Rattle.outcomes.specs.Outcome.{outcome_of}
use Rattle.keyed.specs.Sha2.{sha2}
use Rattle.records.specs.Records.{record_from}
use Rattle.marks.specs.Page.{mark_used, used, WellFormed}
use Rattle.marks.specs.Marking.{reserve_of}
use Rattle.marks.proofs.Ordered.{page_of}
use Rattle.marks.proofs.Pages.{page_marks, page_counted, fresh}
use Rattle.marks.proofs.Marking.{reserve_numbers}
use Rattle.operations.specs.Sign.{sign_refusals, sign_of}
use Rattle.operations.proofs.Signs as signing
use Rattle.promises.specs.History.{first_index, end_index, honest, lent, call_of, Given, given, State, state, Step, whole, step, run, restarts, start}
use Rattle.promises.specs.Kept.{secret_for, key_for, index_of, Every, Without, Accepted, OneMore, the_three_calls, Kept, AlwaysKept}
use Rattle.promises.proofs.Phases.{signature_at, Property, Preserved, Reached, SignedBelow, Phase, idle, pending, marked, Invariant}
use Rattle.promises.specs.declared.Kind.TheVariants.{Marking, Signing}
use Rattle.promises.proofs.Honest.{secret_size, secret_type, signature_index, signature_accepted}
use Rattle.promises.proofs.Steps.{reserve_next, mark_stores, sign_gives, carried}

-- the state in which a history begins
begins : (P : Property) → P 0 0 0 [] → Reached P 0 start
unfolding start
begins P p = record { u = 0; most = omega arith; is_page = fresh; holds = p }

-- used marks by their bits, and by their count
pub mark_below : (page : List ℕ) (u i : ℕ) → page ≡ page_of u → i < 1024 → (mark_used page i ≡ true) ↔ (i < u)
mark_below page u i e h =
    let b : mark_used page i ≡ ltb i u = ap (λ (p : List ℕ). mark_used p i) e ∙ page_marks u i h in
    (λ t. ltb-true i u (sym b ∙ t), λ l. b ∙ lt-ltb i u l)

module _ (secret : List ℕ) where
  -- what is below a is below b
  below_up : (a b : ℕ) (gs : List Given) → a ≤ b → Every (SignedBelow secret a) gs → Every (SignedBelow secret b) gs
  below_up a b [] h e = tt
  below_up a b (g ∷ gs) h e =
      let x = e.0 in (
        record { i = x.i; below = omega (arith, x.below); short = x.short; is_signature = x.is_signature; index = x.index },
        below_up a b gs h e.1,
      )

  -- no signature of a lower index carries index v
  without : (v : ℕ) (gs : List Given) → Every (SignedBelow secret v) gs → Without v gs
  without v [] e = tt
  without v (g ∷ gs) e = (λ q. omega (arith, e.0.below, e.0.index), without v gs e.1)

  -- the four changes lead from phase to phase
  phases : Preserved secret (Invariant secret)
  phases =
      record {
        reserves = λ n u gs h p. record { distinct = p.distinct; phase = reserves n u gs h p.phase };
        marks = λ n u gs h p. record { distinct = p.distinct; phase = marks n u gs p.phase };
        signs = signs;
        restarts = λ n u s gs p. record { distinct = p.distinct; phase = restarts n u s gs p.phase };
      }
    where
      reserves : (n u : ℕ) (gs : List Given) → u < 1024 → Phase secret (length gs + n) u 0 gs → Phase secret (length gs + n) u (suc u) gs
      reserves n u gs h (idle z b l) = pending refl h b l
      reserves n u gs h (pending e q b l) = absurd (omega arith)
      reserves n u gs h (marked v e f b l) = absurd (omega arith)

      marks : (n u : ℕ) (gs : List Given) → Phase secret (length gs + n) u (suc u) gs → Phase secret (length gs + n) (suc u) (suc u) gs
      marks n u gs (idle z b l) = absurd (omega arith)
      marks n u gs (pending e q b l) = marked u refl refl b (omega arith)
      marks n u gs (marked v e f b l) = absurd (omega arith)

      restarts : (n u s : ℕ) (gs : List Given) → Phase secret (length gs + n) u s gs → Phase secret (length gs + suc n) u 0 gs
      restarts n u s gs (idle z b l) = idle refl b (omega arith)
      restarts n u s gs (pending e q b l) = idle refl b (omega arith)
      restarts n u s gs (marked v e f b l) = idle refl (below_up v u gs (omega arith) b) (omega arith)

      signs : (n v : ℕ) (gs : List Given) (m : List ℕ) → v < 1024 → length m ≤ 65536 → Invariant secret n (suc v) (suc v) gs →
          Invariant secret n (suc v) 0 (given m (signature_at secret v m) ∷ gs)
      signs n v gs m h w p = go p.phase
        where
          x : index_of (signature_at secret v m) ≡ v
          x = signature_index sha2 (record_from 32 secret) v m h

          new : SignedBelow secret (suc v) (given m (signature_at secret v m))
          new = record { i = v; below = omega arith; short = w; is_signature = refl; index = x }

          go : Phase secret (length gs + n) (suc v) (suc v) gs → Invariant secret n (suc v) 0 (given m (signature_at secret v m) ∷ gs)
          go (idle z b l) = absurd (omega arith)
          go (pending e q b l) = absurd (omega arith)
          go (marked k e f b l) =
              let q : k ≡ v = omega arith in
              let b' : Every (SignedBelow secret v) gs = subst (λ (j : ℕ). Every (SignedBelow secret j) gs) q b in
              record {
                distinct = (subst (λ (j : ℕ). Without j gs) (sym x) (without v gs b'), p.distinct);
                phase = idle refl (new, below_up v (suc v) gs (omega arith) b') (omega arith);
              }

  -- it holds after every history
  pub invariant : (xs : List Step) → Reached (Invariant secret) (restarts xs) (run (honest secret) xs start)
  invariant xs =
      let p : Invariant secret 0 0 0 [] = record { distinct = tt; phase = idle refl tt (omega arith) } in
      subst (λ (k : ℕ). Reached (Invariant secret) k (run (honest secret) xs start)) (omega arith)
      (carried secret (Invariant secret) phases xs 0 start (begins (Invariant secret) p))

  -- with a record of the right size and type
  module _ (l : length secret ≡ 132) (t : number secret 0 4 ≡ 1) where
    -- nothing refuses to sign where u marks are used and the last of them is pending
    allowed : (page : List ℕ) (u v : ℕ) (m out : List ℕ) → page ≡ page_of u → u ≤ 1024 → u ≡ suc v → length m ≤ 65536 → length out ≡ 2500 →
        outcome_of (sign_refusals sha2 secret page u m out) ≡ 0
    allowed page u v m out e h q w o =
        let c : WellFormed page × (used page ≡ u) = subst (λ (p : List ℕ). WellFormed p × (used p ≡ u)) (sym e) (page_counted u h) in
        sym (signing.stored secret page u m out l t w o c.0 ((omega arith, h), c.1))

    -- reserving, marking and signing, from an empty session
    three : (m out : List ℕ) (gs : List Given) (u : ℕ) → u < 1024 → length m ≤ 65536 → length out ≡ 2500 →
        run (honest secret) (the_three_calls m out) (state (page_of u) 0 gs) ≡ state (page_of (suc u)) 0 (given m (signature_at secret u m) ∷ gs)
    unfolding run step call_of
    three m out gs u h w o =
        let a = reserve_next u 0 gs (omega arith) refl h in
        let b = mark_stores u (suc u) gs (omega arith) refl h in
        let c =
        sign_gives (suc u) (suc u) gs (omega arith) secret m out u refl
        (allowed (page_of (suc u)) (suc u) u m out refl (omega arith) refl w o) in
        ap (λ (x : State). step (honest secret) (whole (lent Signing m out)) (step (honest secret) (whole (lent Marking [] [])) x)) a
        ∙ ap (step (honest secret) (whole (lent Signing m out))) b
        ∙ c

-- of the record and the key that making writes
module _ (material : List ℕ) (l : length material ≡ 96) where
  abbrev secret : List ℕ
  secret = secret_for material

  -- what was signed with the record is accepted under the key
  all_accepted : (u : ℕ) (gs : List Given) → u ≤ 1024 → Every (SignedBelow secret u) gs → Every (Accepted (key_for material)) gs
  all_accepted u [] h e = tt
  all_accepted u (g ∷ gs) h e =
      let x = e.0 in (
        signature_accepted material l x.i g.message g.signature (omega (arith, x.below)) x.short x.is_signature,
        all_accepted u gs h e.1,
      )

  module _ (xs : List Step) (st : State) (r : Reached (Invariant secret) (restarts xs) st) where
    count : used st.page ≡ r.u
    count = ap used r.is_page ∙ (page_counted r.u r.most).1

    signed : (i : ℕ) → st.session ≡ suc i → mark_used st.page i ≡ true → (m out : List ℕ) → length m ≤ 65536 → length out ≡ 2500 →
        Phase secret (length st.given + restarts xs) r.u st.session st.given →
        (sign_of secret st.page st.session m out).answer.outcome ≡ 0
    signed i e k m out w o (idle z b c) = absurd (omega arith)
    signed i e k m out w o (pending f q b c) =
        let a : i < r.u = (mark_below st.page r.u i r.is_page (omega arith)).0 k in
        absurd (omega arith)
    signed i e k m out w o (marked v f g b c) =
        let a =
        allowed secret (secret_size material l) (secret_type material l) st.page r.u v m out r.is_page r.most f w o in
        let a' : outcome_of (sign_refusals sha2 secret st.page st.session m out) ≡ 0 =
        subst (λ (j : ℕ). outcome_of (sign_refusals sha2 secret st.page j m out) ≡ 0) (sym g) a in
        ap (λ x. x.answer.outcome) (sym (signing.sign_done secret st.page st.session m out _ a' refl))

    -- whatever the phase
    below : Phase secret (length st.given + restarts xs) r.u st.session st.given →
        Every (SignedBelow secret r.u) st.given × (r.u ≤ length st.given + restarts xs + 1)
    below (idle z b c) = (b, omega arith)
    below (pending e q b c) = (b, omega arith)
    below (marked v e f b c) = (below_up secret v r.u st.given (omega arith) b, omega arith)

    full : st.session ≡ 0 →
        ((reserve_of first_index end_index st.page st.session).outcome ≡ 8) ↔ ((i : ℕ) → i < 1024 → mark_used st.page i ≡ true)
    full z =
        let x = (reserve_numbers first_index end_index st.page st.session).eight in
        let bit : (i : ℕ) → i < 1024 → (mark_used st.page i ≡ true) ↔ (i < r.u) = λ i h. mark_below st.page r.u i r.is_page h in
        let w : WellFormed st.page = subst WellFormed (sym r.is_page) (page_counted r.u r.most).0 in (
          λ o i h. (bit i h).1 (omega (arith, (x.0 o).2, count)),
          λ a. x.1 ((w, omega arith), z, omega (arith, (bit 1023 (omega arith)).0 (a 1023 (omega arith)), count)),
        )

    one_more : (m out : List ℕ) → st.session ≡ 0 → used st.page < end_index → length m ≤ 65536 → length out ≡ 2500 →
        OneMore (used st.page) m st.given (run (honest secret) (the_three_calls m out) st).given
    one_more m out z h w o =
        let k : r.u < 1024 = omega (arith, count) in
        let e : st ≡ state (page_of r.u) 0 st.given = ap₂ (λ (p : List ℕ) (s : ℕ). state p s st.given) r.is_page z in
        record {
          signature = signature_at secret r.u m;
          more =
              ap (λ (x : State). (run (honest secret) (the_three_calls m out) x).given) e
              ∙ ap (λ (x : State). x.given) (three secret (secret_size material l) (secret_type material l) m out st.given r.u k w o);
          index = signature_index sha2 (record_from 32 secret) r.u m k ∙ sym count;
        }

    kept : Kept (honest secret) (key_for material) xs st
    kept =
        record {
          signs = λ i e k m out w o. signed i e k m out w o r.holds.phase;
          three_calls = one_more;
          accepted = all_accepted r.u st.given r.most (below r.holds.phase).0;
          distinct = r.holds.distinct;
          spent = omega (arith, count, (below r.holds.phase).1);
          full = full;
        }

  -- the promises hold after every history
  pub history : AlwaysKept (honest secret) (key_for material)
  history xs = kept xs (run (honest secret) xs start) (invariant secret xs)
