-- A line that was put character by character holds what is written on it.
use Rattle.std.proofs.Common.{◌≡◌, ℕ, ◌+◌, ◌*◌, ◌≤◌, Bool, true, false, ◌||◌, leb, List, [], ◌∷◌, ◌++◌, length, Some, None, Option, refl, ap, ◌∙◌, append_assoc, append-nil, arith, length-append, le-leb, leb-false, leb-true}
use Rattle.std.proofs.lemmas.Bool.{lt-leb}
use Rattle.lists.specs.Lists.{pick}
use Rattle.lines.specs.Lines.{hex_digit, byte_before, hex_bytes, within, content}
use Rattle.lines.specs.Reading.{Sofar, sofar, fresh, joined, with_digit, put_of, held}

-- all characters of a line
unfoldable pub puts : ℕ → Sofar → List ℕ → Sofar
puts room l [] = l
puts room l (c ∷ cs) = puts room (put_of room l c) cs

-- one character more at the end
pub puts_snoc : (room : ℕ) (l : Sofar) (t : List ℕ) (c : ℕ) → puts room l (t ++ (c ∷ [])) ≡ put_of room (puts room l t) c
unfolding puts
puts_snoc room l [] c = refl
puts_snoc room l (d ∷ t) c = puts_snoc room (put_of room l d) t c

-- what can no longer be read stays so
bad_stays : (room : ℕ) (bytes : List ℕ) (high : Option ℕ) (t : List ℕ) → held (puts room (sofar bytes high true) t) ≡ None
unfolding puts put_of held
bad_stays room bytes high [] = refl
bad_stays room bytes high (c ∷ t) = bad_stays room bytes high t

-- bytes that came before
abbrev behind : List ℕ → Option (List ℕ) → Option (List ℕ)
behind bytes None = None
behind bytes (Some more) = Some (bytes ++ more)

-- two digits
is_byte : (room : ℕ) (bytes : List ℕ) (high low : ℕ) (o : Option (List ℕ))
    → within room (behind (bytes ++ ((16 * high + low) ∷ [])) o) ≡ within room (behind bytes (byte_before (Some high) (Some low) o))
unfolding byte_before within
is_byte room bytes high low None = refl
is_byte room bytes high low (Some x) = rw append_assoc

-- no room for another byte
no_room : (room : ℕ) (bytes : List ℕ) (high : ℕ) (low : Option ℕ) (o : Option (List ℕ)) → room ≤ length bytes
    → within room (behind bytes (byte_before (Some high) low o)) ≡ None
unfolding byte_before within
no_room room bytes high None o h = refl
no_room room bytes high (Some low) None h = refl
no_room room bytes high (Some low) (Some x) h =
    let b : List ℕ = (16 * high + low) ∷ x in
    let long : leb (length (bytes ++ b)) room ≡ false = lt-leb (length (bytes ++ b)) room (omega (arith, length-append bytes b)) in
    rw long

-- a character more, by its digit, and by whether the line is bad or full
abbrev put_by : ℕ → Sofar → Option ℕ → Sofar
put_by room l o = pick (l.bad || leb room (length l.bytes)) (sofar l.bytes l.high true) (with_digit l o)

-- a digit alone on what is left of a line
half : (room : ℕ) (bytes : List ℕ) (o : Option ℕ) (full : Bool) → leb room (length bytes) ≡ full
    → held (put_by room (sofar bytes None false) o) ≡ None
unfolding held with_digit joined
half room bytes o true e = rw e
half room bytes None false e = rw e
half room bytes (Some low) false e = rw e

-- two characters more, and a rest of which the law holds
two : (room : ℕ) (bytes : List ℕ) (x y : Option ℕ) (t : List ℕ) (full : Bool) → leb room (length bytes) ≡ full
    → ((b : List ℕ) → length b ≤ room → held (puts room (sofar b None false) t) ≡ within room (behind b (hex_bytes t)))
    → held (puts room (put_by room (put_by room (sofar bytes None false) x) y) t)
    ≡ within room (behind bytes (byte_before x y (hex_bytes t)))
unfolding with_digit joined byte_before within
two room bytes None y t true e ih = rw e (bad_stays room bytes None t)
two room bytes None y t false e ih = rw e (bad_stays room bytes None t)
two room bytes (Some high) y t true e ih =
    rw (e, no_room room bytes high y (hex_bytes t) (leb-true room (length bytes) e)) (bad_stays room bytes None t)
two room bytes (Some high) None t false e ih = rw (e, e) (bad_stays room bytes (Some high) t)
two room bytes (Some high) (Some low) t false e ih =
    let b : List ℕ = bytes ++ ((16 * high + low) ∷ []) in
    let l : length b ≤ room = omega (arith, length-append bytes ((16 * high + low) ∷ []), leb-false room (length bytes) e) in
    rw (e, e) (ih b l ∙ is_byte room bytes high low (hex_bytes t))

-- with bytes before the line's characters
holds : (room : ℕ) (bytes t : List ℕ) → length bytes ≤ room
    → held (puts room (sofar bytes None false) t) ≡ within room (behind bytes (hex_bytes t))
unfolding puts put_of held hex_bytes within
holds room bytes [] h = rw (append-nil, le-leb (length bytes) room h)
holds room bytes (c ∷ []) h = half room bytes (hex_digit c) (leb room (length bytes)) refl
holds room bytes (c ∷ d ∷ t) h =
    two room bytes (hex_digit c) (hex_digit d) t (leb room (length bytes)) refl (λ b l. holds room b t l)

-- nothing came before
behind_none : (o : Option (List ℕ)) → behind [] o ≡ o
behind_none None = refl
behind_none (Some x) = refl

-- from a fresh line on
pub line_holds : (room : ℕ) (t : List ℕ) → held (puts room fresh t) ≡ content room t
unfolding content
line_holds room t = holds room [] t (omega arith) ∙ ap (within room) (behind_none (hex_bytes t))
