-- The vCard of a Ghostbusters record (RFC 6493 4, RFC 6350), as a function of its octets: what is found, or the first
-- malformed part. A fold (Folds.antt) may be in front of each octet of a line, and counts for nothing.
--
-- contentline   = [group "."] name *(";" param) ":" value CRLF
-- group, name   = 1*(ALPHA / DIGIT / "-")
-- param         = param-name "=" param-value *("," param-value)
-- param-value   = *SAFE-CHAR / DQUOTE *QSAFE-CHAR DQUOTE
--
-- The profile has BEGIN:VCARD on the first line, VERSION:4.0 on the second and END:VCARD on the last; one FN at least
-- between these, ORG, ADR, TEL and EMAIL, of which one ADR, TEL or EMAIL at least; and no other property.
use Rattle.std.specs.Prelude.{ℕ, zero, suc, Bool, true, false, ◌&&◌, ◌||◌, not, ◌+◌, ◌-◌, List, [], ◌∷◌, Option, Some}
use Rattle.std.specs.Prelude.{None, Result, Ok, Err, if◌then◌else◌, nat_lt, eqb, length, take, drop, codes}
use Rattle.std.specs.Char.{is_ascii_alphanumeric}
use Rattle.std.specs.Str.{is_utf8, str_eq_ignore_ascii_case}
use Rattle.rpki_parse.specs.Words.{Parser, bind}
use Rattle.rpki_parse.specs.Fold.{fold_at}
use Rattle.rpki_records.specs.declared.card.Card.{Card}
use Rattle.rpki_records.specs.declared.card.CardPart.{CardPart}
use Rattle.rpki_records.specs.declared.card.CardPart.TheVariants as P
use Rattle.rpki_records.specs.declared.card.Seen.{Seen}
use Rattle.rpki_records.specs.declared.card_octets.OctetClass.{OctetClass}
use Rattle.rpki_records.specs.declared.card_octets.OctetClass.TheVariants as C
use Rattle.rpki_records.specs.declared.card_property.CardProperty.{CardProperty}
use Rattle.rpki_records.specs.declared.card_property.PropertyKind.{PropertyKind}
use Rattle.rpki_records.specs.declared.card_property.PropertyKind.TheVariants as K
use Rattle.rpki_records.specs.Folds.{after_folds, begins_fold, next_octet, unfolded}
use Rattle.rpki_parse.specs.Parts.{at_part}

-- ---- octets (RFC 6350 3.3)

-- ALPHA, DIGIT and "-"
abbrev pub is_name_octet : ℕ → Bool
is_name_octet x = is_ascii_alphanumeric x || eqb x 45

-- VALUE-CHAR: a horizontal tab, and all octets of UTF-8 but control characters
abbrev pub is_value_octet : ℕ → Bool
is_value_octet x = eqb x 9 || (nat_lt 31 x && not (eqb x 127))

-- QSAFE-CHAR: no quotation mark
abbrev pub is_quoted_octet : ℕ → Bool
is_quoted_octet x = is_value_octet x && not (eqb x 34)

-- SAFE-CHAR: no colon and no semicolon either; nor a comma, which ends a value
abbrev pub is_safe_octet : ℕ → Bool
is_safe_octet x = is_quoted_octet x && not (eqb x 44 || (eqb x 58 || eqb x 59))

abbrev pub is_of : OctetClass → ℕ → Bool
is_of C.Name = is_name_octet
is_of C.Value = is_value_octet
is_of C.Quoted = is_quoted_octet
is_of C.Safe = is_safe_octet

-- s without the first k octets, and without the octets of a class and the folds in front of what follows these
abbrev pub after_run_from : OctetClass → ℕ → List ℕ → List ℕ
after_run_from c k [] = []
after_run_from c zero (x ∷ s) =
    if begins_fold (x ∷ s) then after_run_from c 2 s else if is_of c x then after_run_from c 0 s else x ∷ s
after_run_from c (suc k) (x ∷ s) = after_run_from c k s

abbrev pub after_run : OctetClass → List ℕ → List ℕ
after_run c s = after_run_from c 0 s

-- the octets of a class in front, with the folds among them, and what follows
abbrev pub run_of : OctetClass → List ℕ → List ℕ × List ℕ
run_of c s = (take (length s - length (after_run c s)) s, after_run c s)

-- whether this octet is in front; and this octet
abbrev pub is_octet : ℕ → Option (ℕ × List ℕ) → Bool
is_octet x None = false
is_octet x (Some p) = eqb p.0 x

abbrev pub begins_with : ℕ → List ℕ → Bool
begins_with x s = is_octet x (next_octet s)

abbrev pub only_octet : ℕ → Option (ℕ × List ℕ) → Result (Unit {0} × List ℕ) ℕ
only_octet x None = Err 5
only_octet x (Some p) = if eqb p.0 x then Ok (tt, p.1) else Err 5

abbrev pub octet_at : ℕ → Parser (Unit {0})
octet_at x s = only_octet x (next_octet s)

-- ---- lines: octets of values, and a line break

unfoldable pub line_at : Parser (List ℕ)
line_at s =
    let l = run_of C.Value s in
    bind (octet_at 13 l.1) (λ r. bind (octet_at 10 r.1) (λ b. Ok (l.0, b.1)))

-- whether s is this word but for folds and the case of letters, as all words of a vCard are compared
abbrev pub is_word : List ℕ → List ℕ → Bool
is_word s word = str_eq_ignore_ascii_case (unfolded s) word

-- a line of this text
abbrev pub text_line_at : List ℕ → Parser (Unit {0})
text_line_at text s = bind (line_at s) (λ l. if is_word l.0 text then Ok (tt, l.1) else Err 5)

-- ---- names

abbrev pub nonempty : List ℕ × List ℕ → Result (List ℕ × List ℕ) ℕ
nonempty ([], s) = Err 5
nonempty (x ∷ xs, s) = Ok (x ∷ xs, s)

abbrev pub word_at : Parser (List ℕ)
word_at s = nonempty (run_of C.Name (after_folds s))

-- [group "."] name
abbrev pub name_at : Parser (List ℕ)
name_at s = bind (word_at s) (λ w. if begins_with 46 w.1 then bind (octet_at 46 w.1) (λ d. word_at d.1) else Ok w)

-- ---- parameters

-- a value of one, and the folds after it
abbrev pub quoted_at : Parser (Unit {0})
quoted_at s =
    bind (octet_at 34 s) (λ o. bind (octet_at 34 (run_of C.Quoted o.1).1) (λ q. Ok (tt, after_folds q.1)))

abbrev pub parameter_value_at : Parser (Unit {0})
parameter_value_at s = if begins_with 34 s then quoted_at s else Ok (tt, (run_of C.Safe s).1)

-- ";" param-name "=" param-value
abbrev pub parameter_at : Parser (Unit {0})
parameter_at s =
    bind (octet_at 59 s) (λ a. bind (word_at a.1) (λ n. bind (octet_at 61 n.1) (λ e. parameter_value_at e.1)))

-- "," param-value
abbrev pub next_value_at : Parser (Unit {0})
next_value_at s = bind (octet_at 44 s) (λ c. parameter_value_at c.1)

-- a parameter; or a further value, where a parameter is in front already
abbrev pub parameter_part_at : Bool → Parser Bool
parameter_part_at b s =
    if b && begins_with 44 s then bind (next_value_at s) (λ r. Ok (true, r.1))
    else bind (parameter_at s) (λ r. Ok (true, r.1))

-- all of s is parameters
unfoldable pub parameters_in : List ℕ → Result (Unit {0}) ℕ
parameters_in s = bind (fold_at parameter_part_at false s) (λ n. Ok tt)

-- How many octets are before the first colon that isn't in quotation marks; all where there is none. b says whether s
-- begins in these.
abbrev pub octets_before_colon : Bool → List ℕ → ℕ
octets_before_colon b [] = 0
octets_before_colon true (x ∷ s) = 1 + octets_before_colon (not (eqb x 34)) s
octets_before_colon false (x ∷ s) = if eqb x 58 then 0 else 1 + octets_before_colon (eqb x 34) s

-- ---- properties (RFC 6493 4)

abbrev pub kind_of : List ℕ → Result PropertyKind ℕ
kind_of name =
    if is_word name (codes "FN") then Ok K.Name
    else if is_word name (codes "ORG") then Ok K.Organization
    else if is_word name (codes "ADR") then Ok K.Address
    else if is_word name (codes "TEL") then Ok K.Telephone
    else if is_word name (codes "EMAIL") then Ok K.Email
    else Err 5

pub record FoundProperty : Type 0 where
  pub kind : PropertyKind
  pub parameters : List ℕ
  pub value : List ℕ

abbrev pub found_property : CardProperty → FoundProperty
found_property x = record { kind = x.kind; parameters = x.parameters.now; value = x.value.now }

-- a line without its break
unfoldable pub property_in : List ℕ → Result FoundProperty ℕ
property_in l =
    bind (name_at l) (λ n.
    bind (kind_of n.0) (λ k.
    let c = octets_before_colon false n.1 in
    bind (parameters_in (take c n.1)) (λ p.
    bind (octet_at 58 (drop c n.1)) (λ v. Ok (record { kind = k; parameters = take c n.1; value = v.1 })))))

abbrev pub property_at : Parser FoundProperty
property_at s = bind (line_at s) (λ l. bind (property_in l.0) (λ p. Ok (p, l.1)))

-- ---- the whole

-- what was seen of the lines so far: a name; one of ADR, TEL and EMAIL; the end
abbrev pub seen_nothing : Seen
seen_nothing = record { name = false; contact = false; end = false }

abbrev pub seen_end : Seen → Seen
seen_end x = record { name = x.name; contact = x.contact; end = true }

abbrev pub seen_with : PropertyKind → Seen → Seen
seen_with K.Name x = record { name = true; contact = x.contact; end = x.end }
seen_with K.Organization x = x
seen_with K.Address x = record { name = x.name; contact = true; end = x.end }
seen_with K.Telephone x = record { name = x.name; contact = true; end = x.end }
seen_with K.Email x = record { name = x.name; contact = true; end = x.end }

-- a property, or the end, which nothing follows
abbrev pub card_line_at : Seen → Parser Seen
card_line_at x s =
    if x.end then Err 6
    else bind (line_at s) (λ l.
    if is_word l.0 (codes "END:VCARD") then Ok (seen_end x, l.1)
    else bind (property_in l.0) (λ p. Ok (seen_with p.kind x, l.1)))

-- all of s is such lines: what was seen of them, and how many there are
unfoldable pub card_lines_in : List ℕ → Result (Seen × ℕ) ℕ
card_lines_in s = fold_at card_line_at seen_nothing s

abbrev pub holds : Bool → Result (Unit {0}) ℕ
holds true = Ok tt
holds false = Err 5

-- what is found: the octets of the lines that follow the version, and how many of these are properties
pub record FoundCard : Type 0 where
  pub lines : List ℕ
  pub count : ℕ

abbrev pub found_card : Card → FoundCard
found_card x = record { lines = x.lines.now; count = x.count }

-- a card: all of s
abbrev pub card_in : List ℕ → Result FoundCard (CardPart × ℕ)
card_in s =
    bind (at_part P.Text (holds (is_utf8 s))) (λ _.
    bind (at_part P.Begin (text_line_at (codes "BEGIN:VCARD") s)) (λ b.
    bind (at_part P.Version (text_line_at (codes "VERSION:4.0") b.1)) (λ v.
    bind (at_part P.Property (card_lines_in v.1)) (λ n.
    bind (at_part P.End (holds n.0.end)) (λ _.
    bind (at_part P.Name (holds n.0.name)) (λ _.
    bind (at_part P.Contact (holds n.0.contact)) (λ _.
    Ok (record { lines = v.1; count = n.1 - 1 }))))))))

-- ---- a cursor over properties

-- the property in front and what follows it; none where there is none, and then nothing is read
abbrev pub given_property : List ℕ → Result (FoundProperty × List ℕ) ℕ → Option FoundProperty × List ℕ
given_property s (Ok p) = (Some p.0, p.1)
given_property s (Err e) = (None, s)

abbrev pub given_property_at : List ℕ → Option FoundProperty × List ℕ
given_property_at s = given_property s (property_at s)
