-- The words of `rpki_der` that crates above say, by subject: one import line for them all. Declares nothing.
pub use Rattle.rpki_der.specs.Capture.{IsCapturedFault, SpellsKept}
pub use Rattle.rpki_der.specs.Composed.{ReadsInside}
pub use Rattle.rpki_der.specs.ContentView.{is_constructed, octets_of}
pub use Rattle.rpki_der.specs.Contents.{bits_contents, octet_string_contents}
pub use Rattle.rpki_der.specs.Cursor.{left}
pub use Rattle.rpki_der.specs.DefaultFalse.{IsTrueFault, SpellsTrue}
pub use Rattle.rpki_der.specs.Each.{IsEachFault, ReadsEach, SpellsEach, SpellsSome}
pub use Rattle.rpki_der.specs.Equal.{same_bits}
pub use Rattle.rpki_der.specs.Error.{error_number}
pub use Rattle.rpki_der.specs.ErrorText.{error_text, text_of}
pub use Rattle.rpki_der.specs.FirstFault.{FirstFault, IsEndFault, IsInsideFault, OptionalFault, ReadsParts}
pub use Rattle.rpki_der.specs.FirstFault.{RepeatedFault}
pub use Rattle.rpki_der.specs.FirstFault.FirstFault.{AtPart, Later}
pub use Rattle.rpki_der.specs.FirstFault.RepeatedFault.{AfterMember, AtMember}
pub use Rattle.rpki_der.specs.Format.{Format, IsContentError, SpellsFor, StandsForNothing, Takes, TakesAll, TakesWhere}
pub use Rattle.rpki_der.specs.Format.{TakesWhole, TakesWholeInPlace, around, each, either, end, in_place, kept}
pub use Rattle.rpki_der.specs.Format.{kept_where, leaf, octets_under, only, optional_then, said_by, such, then, then_by}
pub use Rattle.rpki_der.specs.Front.{after_front, front_contents}
pub use Rattle.rpki_der.specs.Header.{class_number, identifier_octets, lead, length_octets, tlv}
pub use Rattle.rpki_der.specs.Index.{Entry, IsIndex, entries, entry}
pub use Rattle.rpki_der.specs.IndexMembers.{HasEntry, member_numbers}
pub use Rattle.rpki_der.specs.Inside.{HasInside}
pub use Rattle.rpki_der.specs.Integer.{IsMagnitude, IsMinimal, IsNumber, IsUnsigned, IsUnsignedBelow, WritesNumber}
pub use Rattle.rpki_der.specs.Integer.{unsigned_contents}
pub use Rattle.rpki_der.specs.LeafFormats.{any_oid, bits_value, boolean_value, null_value, octets_sized, this_number}
pub use Rattle.rpki_der.specs.LeafFormats.{this_oid, unsigned_below, unsigned_value}
pub use Rattle.rpki_der.specs.Leaves.{AreBits, Bits, IsBits, IsBoolean, IsNull, IsOid, IsOidOf, IsOnly, IsSized}
pub use Rattle.rpki_der.specs.Leaves.{bits_of, boolean_contents}
pub use Rattle.rpki_der.specs.Members.{AreValues, Empty, HaveHeaders, IsValue, IsValueList, Members, SpellsValue, count}
pub use Rattle.rpki_der.specs.Members.{header_count, spell}
pub use Rattle.rpki_der.specs.NestedFault.{IsCaptureFault, IsNestedFault}
pub use Rattle.rpki_der.specs.Number.{AreOctets, low_octets, number_of}
pub use Rattle.rpki_der.specs.NumberLaws.{low_octets-full, number-lt, power}
pub use Rattle.rpki_der.specs.Parts.{SpellsBoth, Then, optional_of}
pub use Rattle.rpki_der.specs.Reading.{Accepts, AnyFault, Decodes, Finds, IsCut, IsWholeFault, OrMemoryWhere, Reads}
pub use Rattle.rpki_der.specs.Reading.{ReadsWhere, Refusal, Refuses, Spells, SpellsNothing, TakesNoMemory, UnlessMemory}
pub use Rattle.rpki_der.specs.Section.{IsSection, IsSectionOf}
pub use Rattle.rpki_der.specs.Sharing.{CanShare}
pub use Rattle.rpki_der.specs.StandingLaws.{rest-stands}
pub use Rattle.rpki_der.specs.TagName.{IsTag, TagName, bit_string, boolean, context_6, generalized_time, ia5_string}
pub use Rattle.rpki_der.specs.TagName.{integer, null, octet_string, oid, printable_string, sequence, set, tag_of}
pub use Rattle.rpki_der.specs.TagName.{utc_time, utf8_string}
pub use Rattle.rpki_der.specs.Text.{IsPrintableText, IsUtf8Text, are_printable, is_printable}
pub use Rattle.rpki_der.specs.Tree.{IsShortTree, Tree, tree_octets}
pub use Rattle.rpki_der.specs.ValueListLaws.{constructed_value, no_value_list, no_values, octet_string_legal}
pub use Rattle.rpki_der.specs.ValueListLaws.{primitive_value, primitive_value_list, sequence_legal, set_legal}
pub use Rattle.rpki_der.specs.ValueListLaws.{value_lists_append, values_append}
pub use Rattle.rpki_der.specs.Values.{GivesOuterFault, HasTag, IsContentsFault, IsHeaderFault, IsLeafFault}
pub use Rattle.rpki_der.specs.Values.{IsOuterFault, IsValueFault, ReadsLeaf, SpellsContents, SpellsHeader, SpellsLeaf}
pub use Rattle.rpki_der.specs.Walk.{CountsHeaders, HasConstructed, HasEither, SpellsAnyValue}
pub use Rattle.rpki_der.specs.WantedValue.{IsAnyTag, IsPrimitive, IsTagged, IsWantedFault, SpellsWanted}
pub use Rattle.rpki_der.specs.Written.{AppendsCut, Writes}
