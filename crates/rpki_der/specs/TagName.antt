-- What a tag is (X.690 8.1.2.2).
use Rattle.std.specs.Prelude.{ℕ, ◌≡◌, ◌<◌, ◌^◌, List, [], ◌∷◌}
use Rattle.rpki_der.specs.declared.tag.Class.{Class}
use Rattle.rpki_der.specs.declared.tag.Class.TheVariants.{Universal, Context}

pub record TagName : Type 0 where
  pub class : Class
  pub number : ℕ

-- the tags that have identifier octets here: a number below 2 ^ 28, and not universal 0
pub record IsTag (t : TagName) : Type 0 where
  pub below : t.number < 2 ^ 28
  pub named : t.class ≡ Universal → 0 < t.number

-- the tag of a class and a number
abbrev pub tag_of : Class → ℕ → TagName
tag_of class number = record { class = class; number = number }

-- the universal tags (X.690 8.2 to 8.23, X.680 8.4)
abbrev pub boolean : TagName
boolean = tag_of Universal 1

abbrev pub integer : TagName
integer = tag_of Universal 2

abbrev pub bit_string : TagName
bit_string = tag_of Universal 3

abbrev pub octet_string : TagName
octet_string = tag_of Universal 4

abbrev pub null : TagName
null = tag_of Universal 5

abbrev pub oid : TagName
oid = tag_of Universal 6

abbrev pub utf8_string : TagName
utf8_string = tag_of Universal 12

abbrev pub sequence : TagName
sequence = tag_of Universal 16

abbrev pub set : TagName
set = tag_of Universal 17

abbrev pub printable_string : TagName
printable_string = tag_of Universal 19

abbrev pub ia5_string : TagName
ia5_string = tag_of Universal 22

abbrev pub utc_time : TagName
utc_time = tag_of Universal 23

abbrev pub generalized_time : TagName
generalized_time = tag_of Universal 24

-- the tag of a URI in a general name (RFC 5280 4.2.1.6)
abbrev pub context_6 : TagName
context_6 = tag_of Context 6

-- the tags that have names (X.680 8.4; RFC 5280 4.2.1.6)
abbrev pub named_tags : List TagName
named_tags = boolean ∷ integer ∷ bit_string ∷ octet_string ∷ null ∷ oid ∷ utf8_string ∷ sequence ∷ set
    ∷ printable_string ∷ ia5_string ∷ utc_time ∷ generalized_time ∷ context_6 ∷ []
