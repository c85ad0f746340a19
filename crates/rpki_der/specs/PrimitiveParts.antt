-- What a clause sees of a primitive value that is written (X.690 8.1.4).
use Rattle.rpki_der.specs.TagName.{TagName, IsTag, tag_of}
use Rattle.rpki_der.specs.declared.encode.primitive.Primitive.{Primitive}

-- its tag
abbrev pub tag_in : {P : Type 0} → Primitive P → TagName
tag_in x = tag_of x.class x.number

-- its contents, before they are octets
abbrev pub content_in : {P : Type 0} → Primitive P → P
content_in x = x.content

-- it has a tag
pub has_tag : {P : Type 0} → (x : Primitive P) → IsTag (tag_in x)
has_tag x = x.legal
