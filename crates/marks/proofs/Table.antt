-- Rows 8 to 12 of the table hold of the definitions: the pages by computing, the answers by their laws.
use Rattle.std.proofs.Common.{◌≡◌, ℕ, ◌+◌, ◌/◌, ◌%◌, ◌<◌, ◌≤◌, false, List, get_or, sym, refl, ◌∙◌, subst, arith}
use Rattle.std.proofs.lemmas.Bool.{false≢true}
use Rattle.lists.specs.Lists.{tab}
use Rattle.marks.specs.Page.{bit_used, mark_used, used_below, ordered_below, used, WellFormed, cleared, with_mark}
use Rattle.marks.proofs.Ordered.{byte_of, page_of}
use Rattle.marks.specs.Table.{Next, Full, Malformed, PageRows}
use Rattle.marks.proofs.Pages.{page_counted}
use Rattle.marks.proofs.Answers.{reserve_damaged, reserve_full, reserve_free, reserve_refused, reserve_done, mark_damaged, mark_first}

module _ (page : List ℕ) where
  counted : (u : ℕ) → u ≤ 1024 → page_of u ≡ page → WellFormed page × (used page ≡ u)
  counted u h e = subst (λ (p : List ℕ). WellFormed p × (used p ≡ u)) e (page_counted u h)

  next : (u : ℕ) → u < 1024 → page_of u ≡ page → Next page u (u + 1) (u / 8) (cleared (get_or page (u / 8) 0) (u % 8))
  unfolding with_mark
  next u h e =
      let c = counted u (omega arith) e in
      record {
        count = c.1;
        reserves = sym (reserve_done 0 1024 page 0 u c.1 (reserve_free 0 1024 page 0 u (c.0, omega arith) c.1 refl h));
        marks = sym (mark_first page u c.0 c.1 h);
      }

  full : page_of 1024 ≡ page → Full page
  full e =
      let c = counted 1024 (omega arith) e in
      sym (reserve_refused 0 1024 page 0 8 (λ z. omega arith) (reserve_full 0 1024 page 0 1024 (c.0, omega arith) c.1 refl (omega arith)))

  malformed : ordered_below page 1024 ≡ false → Malformed page
  malformed e s =
      let n : WellFormed page → ⊥ = λ w. false≢true (sym e ∙ w.1) in
      (sym (reserve_refused 0 1024 page s 7 (λ z. omega arith) (reserve_damaged 0 1024 page s (λ v. n v.0))), sym (mark_damaged page s n))

pub page_rows : PageRows
unfolding bit_used mark_used used_below ordered_below cleared page_of tab byte_of
page_rows =
    record {
      row_8 = next _ 0 (omega arith) refl;
      row_9 = next _ 19 (omega arith) refl;
      row_10 = next _ 1023 (omega arith) refl;
      row_11 = full _ refl;
      row_12 = (malformed _ refl, malformed _ refl);
    }
