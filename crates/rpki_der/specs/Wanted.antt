-- Which values a reader by tag and form takes.
use Rattle.std.specs.Prelude.{Bool}
use Rattle.rpki_der.specs.declared.value.Wanted.{Wanted}
use Rattle.rpki_der.specs.declared.value.Wanted.TheVariants.{Any, Primitive, Tagged, Formed}
use Rattle.rpki_der.specs.TagName.{TagName}
use Rattle.rpki_der.specs.WantedValue.{IsAnyTag, IsPrimitive, IsTagged, IsFormed}

-- a value of this tag and form is wanted
abbrev pub IsWanted : Wanted → TagName → Bool → Type 0
IsWanted Any t f = IsAnyTag t f
IsWanted Primitive t f = IsPrimitive t f
IsWanted (Tagged tag) t f = IsTagged tag t f
IsWanted (Formed tag form) t f = IsFormed tag form t f
