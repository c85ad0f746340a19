-- The explicit context-specific tag 0 (X.690 8.14.2).
use Rattle.rpki_der.specs.declared.tag.Class.TheVariants.{Context}
use Rattle.rpki_der.specs.Prelude.{TagName, tag_of}

abbrev pub zero_tag : TagName
zero_tag = tag_of Context 0
