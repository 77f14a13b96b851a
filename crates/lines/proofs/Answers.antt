-- What the step on characters writes is what answering line by line says: for every input, any chunks, room and answer.
use Rattle.std.proofs.Common.{◌≡◌, ℕ, ◌+◌, Bool, true, false, eqb, List, [], ◌∷◌, ◌++◌, Option, sym, refl, ap, ◌∙◌, append_assoc, append-nil}
use Rattle.lists.specs.Lists.{pick, flat}
use Rattle.lines.specs.Lines.{front, lines_of, content}
use Rattle.lines.specs.Steps.{Stepped, stepped, run_of}
use Rattle.lines.specs.Reading.{Session, session, start, fresh, put_of, by_lines, closed, char_step, end_input, written}
use Rattle.lines.proofs.Runs.{any_chunks}
use Rattle.lines.proofs.Contents.{puts, puts_snoc, line_holds}

-- a text in front of a text
front-front : (t u : List ℕ) (ls : List (List ℕ)) → front t (front u ls) ≡ front (t ++ u) ls
unfolding front
front-front t u [] = refl
front-front t u (l ∷ ls) = rw append_assoc

module _ {A : Type 0} (room : ℕ) (answer : A → ℕ → Option (List ℕ) → Stepped A) where
  -- what is written for an input and at its end, from a session on
  unfoldable rest : Session A → List ℕ → List ℕ
  rest s cs = (run_of (char_step room answer) s cs).out ++ (end_input answer (run_of (char_step room answer) s cs).to).out

  -- one character of it
  rest_step : (s : Session A) (c : ℕ) (cs : List ℕ)
      → rest s (c ∷ cs) ≡ (char_step room answer s c).out ++ rest (char_step room answer s c).to cs
  unfolding rest run_of
  rest_step s c cs =
      let t = char_step room answer s c in
      append_assoc t.out (run_of (char_step room answer) t.to cs).out _

  -- what has to be shown of an input: where a line with the text t has begun, and where none has
  abbrev Begun : List ℕ → Type 0
  Begun cs =
      (t : List ℕ) (n : ℕ) (a : A)
      → rest (session n true (puts room fresh t) a) cs ≡ (by_lines room answer a (n + 1) (front t (lines_of cs))).out

  abbrev Between : List ℕ → Type 0
  Between cs = (n : ℕ) (a : A) → rest (session n false fresh a) cs ≡ (by_lines room answer a (n + 1) (lines_of cs)).out

  -- a line that ends here
  ended : (cs t : List ℕ) (n : ℕ) (b : Bool) (a : A) → Between cs
      → (closed answer (session n b (puts room fresh t) a)).out ++ rest (closed answer (session n b (puts room fresh t) a)).to cs
      ≡ (by_lines room answer a (n + 1) (t ∷ lines_of cs)).out
  unfolding closed by_lines
  ended cs t n b a h = rw (line_holds room t) (ap (λ (o : List ℕ). (answer a (n + 1) (content room t)).out ++ o) (h (n + 1) _))

  -- a character, by whether it is a line feed: the step, and the lines with it
  abbrev by : Bool → Session A → ℕ → Stepped (Session A)
  by b s c = pick b (closed answer s) (stepped (session s.number true (put_of room s.line c) s.state) [])

  abbrev cut : Bool → ℕ → List ℕ → List (List ℕ)
  cut b c cs = pick b ([] ∷ lines_of cs) (front (c ∷ []) (lines_of cs))

  -- either way, where a line has begun
  in_line : (b : Bool) (c : ℕ) (cs : List ℕ) → Begun cs → Between cs → (t : List ℕ) (n : ℕ) (a : A)
      → (by b (session n true (puts room fresh t) a) c).out ++ rest (by b (session n true (puts room fresh t) a) c).to cs
      ≡ (by_lines room answer a (n + 1) (front t (cut b c cs))).out
  unfolding front
  in_line true c cs f g t n a = rw append-nil (ended cs t n true a g)
  in_line false c cs f g t n a = rw (← puts_snoc room fresh t c, front-front) (f (t ++ (c ∷ [])) n a)

  -- and where none has
  between : (b : Bool) (c : ℕ) (cs : List ℕ) → Begun cs → Between cs → (n : ℕ) (a : A)
      → (by b (session n false fresh a) c).out ++ rest (by b (session n false fresh a) c).to cs
      ≡ (by_lines room answer a (n + 1) (cut b c cs)).out
  unfolding puts
  between true c cs f g n a = ended cs [] n false a g
  between false c cs f g n a = f (c ∷ []) n a

  -- the last line, where it has begun
  last : (t : List ℕ) (n : ℕ) (a : A)
      → (closed answer (session n true (puts room fresh t) a)).out ≡ (by_lines room answer a (n + 1) (front t [])).out
  unfolding closed by_lines front
  last t n a = rw (line_holds room t) (sym (append-nil _))

  -- of every input, by induction on it
  both : (cs : List ℕ) → Begun cs × Between cs
  unfolding lines_of rest run_of end_input char_step by_lines
  both [] = (last, λ n a. refl)
  both (c ∷ cs) =
      let h = both cs in (
        λ t n a. rest_step _ c cs ∙ in_line (eqb c 10) c cs h.0 h.1 t n a,
        λ n a. rest_step _ c cs ∙ between (eqb c 10) c cs h.0 h.1 n a,
      )

  -- the law: in whatever chunks an input comes, what is written for it is what its lines are answered
  pub as_answered : (a : A) (chunks : List (List ℕ))
      → written room answer a chunks ≡ (by_lines room answer a 1 (lines_of (flat chunks))).out
  unfolding written rest
  as_answered a chunks = rw (any_chunks (char_step room answer) (start a) chunks) ((both (flat chunks)).1 0 a)
