-- The promises of checking hold of its list of refusals, over any suites.
use Rattle.std.proofs.Common.{◌≡◌, ℕ, ◌+◌, ◌*◌, ◌^◌, ◌<◌, ◌≤◌, ◌↔◌, List, length, sym, refl, ◌∙◌, mul_comm, mul-add, arith}
use Rattle.lists.specs.Bytes.{number}
use Rattle.outcomes.specs.Outcome.{outcome_of}
use Rattle.outcomes.proofs.Outcomes.{at_place, at_none, outcome_most}
use Rattle.rfc8391.specs.Suite.{Suite}
use Rattle.rfc8391.specs.Xmss.{verify}
use Rattle.rfc8391.specs.Formats.{value_length, path_start, signature_length, type_of, hash_of, height_of}
use Rattle.rfc8391.specs.declared.Hash.{Hash}
use Rattle.operations.specs.Check.{check_refusals}
use Rattle.operations.proofs.Types.{key_size, known_is_served}
use Rattle.promises.specs.Checking.{SignatureFits, CheckNumbers, Accepted}

not_over : (a b : ℕ) → (a ≤ b → ⊥) → b < a
not_over a b n = omega arith

not_under : (a b : ℕ) → (a < b → ⊥) → b ≤ a
not_under a b n = omega arith

size : (n h : ℕ) → signature_length n h ≡ 4 + n + (2 * n + 3 + h) * n
unfolding signature_length path_start
size n h = rw (mul_comm (2 * n + 3 + h) n, mul-add n (2 * n + 3) h) (omega arith)

module _ (suites : Hash → Suite) (key m sig : List ℕ) where
  -- the signature's length as the operation has it, and in the paper's form
  signature_fits : (length sig ≡ signature_length (value_length (hash_of (type_of key))) (height_of (type_of key))) ↔ SignatureFits suites key m sig
  signature_fits =
      let e = size (value_length (hash_of (type_of key))) (height_of (type_of key)) in
      (λ q. q ∙ e, λ q. q ∙ sym e)

  pub numbers : CheckNumbers suites key m sig (outcome_of (check_refusals suites key m sig))
  unfolding check_refusals verify
  numbers =
      let l = check_refusals suites key m sig in
      let h = height_of (type_of key) in
      let p1 = at_place l 0 1 (λ e. omega arith) refl refl in
      let p2 = at_place l 1 2 (λ e. omega arith) refl refl in
      let p3 = at_place l 2 3 (λ e. omega arith) refl refl in
      let p4 = at_place l 3 4 (λ e. omega arith) refl refl in
      let p5 = at_place l 4 5 (λ e. omega arith) refl refl in
      let p6 = at_place l 5 6 (λ e. omega arith) refl refl in
      let s = signature_fits in
      record {
        one = p1;
        two = (λ o. let f = p2.0 o in (f.0, f.1), λ f. p2.1 (f.0, f.1));
        three = (
          λ o. let f = p3.0 o in (f.0, f.1.0, λ e. f.1.1 (s.1 e)),
          λ f. p3.1 (f.0, (f.1, λ e. f.2 (s.0 e))),
        );
        four = (
          λ o. let f = p4.0 o in (f.0, f.1.0, s.0 f.1.1.0, λ e. let q = f.1.1.1 in omega arith),
          λ f. p4.1 (f.0, (f.1, (s.1 f.2, not_over (length m) 65536 f.3))),
        );
        five = (
          λ o. let f = p5.0 o in (f.0, f.1.0, s.0 f.1.1.0, f.1.1.1.0, λ e. let q = f.1.1.1.1 in omega arith),
          λ f. p5.1 (f.0, (f.1, (s.1 f.2, (f.3, not_under (number sig 0 4) (2 ^ h) f.4)))),
        );
        six = (
          λ o. let f = p6.0 o in (f.0, f.1.0, s.0 f.1.1.0, f.1.1.1.0, f.1.1.1.1.0, f.1.1.1.1.1),
          λ f. p6.1 (f.0, (f.1, (s.1 f.2, (f.3, (f.4, f.5))))),
        );
        none_other = outcome_most l 6 refl;
      }

  pub accepted : (outcome_of (check_refusals suites key m sig) ≡ 0) ↔ Accepted suites key m sig
  unfolding check_refusals
  accepted = (fwd, bwd)
    where
      fwd : outcome_of (check_refusals suites key m sig) ≡ 0 → Accepted suites key m sig
      fwd e =
          let n = (at_none (check_refusals suites key m sig) refl).0 e in
          record {
            accepts =
                record {
                  hash = hash_of (type_of key);
                  height = height_of (type_of key);
                  key_length = n.0 ∙ sym (key_size (hash_of (type_of key)));
                  key_type = known_is_served (number key 0 4) n.1.0;
                  sig_length = n.1.1.0;
                  valid = n.1.1.1.1.1.0;
                };
            message = n.1.1.1.0;
            index = n.1.1.1.1.0;
          }

      bwd : Accepted suites key m sig → outcome_of (check_refusals suites key m sig) ≡ 0
      bwd a =
          let r = a.accepts in
          let t = r.key_type in
          (at_none (check_refusals suites key m sig) refl).1 (
            r.key_length ∙ key_size r.hash,
            (
              λ e. cc,
              (rw t r.sig_length, (a.message, (rw t a.index, (rw t r.valid, tt)))),
            ),
          )
