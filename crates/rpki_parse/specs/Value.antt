-- Values by their tag, as functions (X.690 8.1).
use Rattle.std.specs.Prelude.{ℕ, Bool, true, false, ◌&&◌, List, [], ◌∷◌, Result, Ok, Err, if◌then◌else◌}
use Rattle.std.specs.Prelude.{length, take, drop, nat_lt, nat_eq}
use Rattle.rpki_der.specs.declared.error.DecodeError.{DecodeError}
use Rattle.rpki_der.specs.declared.tag.Header.{Header}
use Rattle.rpki_der.specs.TagName.{TagName}
use Rattle.rpki_der.specs.Header.{class_number}
use Rattle.rpki_der.specs.HeaderReading.{header_at, identifier_at}
use Rattle.rpki_parse.specs.Words.{Parser, bind, kinds}

abbrev pub same_bool : Bool → Bool → Bool
same_bool true b = b
same_bool false true = false
same_bool false false = true

abbrev pub is_tag : TagName → TagName → Bool
is_tag t u = nat_eq (class_number u.class) (class_number t.class) && nat_eq u.number t.number

abbrev pub has_header : TagName → Bool → Header → Bool
has_header t f h = is_tag t h.tag && same_bool f h.constructed

-- The contents of a value of this tag and form, and what follows it: a header (X.690 8.1.2, 8.1.3) that names them, and
-- as many octets as it announces. Errors: those of a header, 4 for another tag or form, 1 for too few octets.
unfoldable pub value_at : TagName → Bool → Parser (List ℕ)
value_at t f s =
    bind (kinds (header_at s)) (λ h.
    if has_header t f h.0
    then (if nat_lt (length h.1) h.0.length then Err 1 else Ok (take h.0.length h.1, drop h.0.length h.1))
    else Err 4)

-- nothing remains; else error 6
unfoldable pub ended : List ℕ → Result (Unit {0}) ℕ
ended [] = Ok tt
ended (x ∷ xs) = Err 6

abbrev pub tag_of_result : TagName → Result ((TagName × Bool) × List ℕ) DecodeError → Bool
tag_of_result t (Ok i) = is_tag t i.0.0
tag_of_result t (Err e) = false

-- whether the octets begin with the identifier octets of this tag, in either form (X.690 8.1.2)
unfoldable pub tagged : TagName → List ℕ → Bool
tagged t s = tag_of_result t (identifier_at s)
