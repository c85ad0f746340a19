-- What a person reads where nothing is written.
use denote.Bor.{Bor}
use Rattle.std.specs.Prelude.{◌++◌, ℕ, List, [], Option, codes, decimal, map, option_map, slice_get}
use Rattle.std.specs.Option.{unwrap_or}
use Rattle.rpki_der.specs.Prelude.{error_text}
use Rattle.std.specs.Net.Text.{ip_text}
use Rattle.rpki_locator.specs.declared.error.LocatorError.{LocatorError}
use Rattle.rpki_locator.specs.declared.error.LocatorError.TheVariants as L
use Rattle.rpki_payloads.specs.declared.conflict.Overlap.{Overlap}
use Rattle.rpki_payloads.specs.declared.conflict.Overlap.TheVariants as O
use Rattle.rpki_payloads.specs.declared.exceptions_text.ExceptionsError.{ExceptionsError}
use Rattle.rpki_payloads.specs.declared.exceptions_text.ExceptionsError.TheVariants as E
use Rattle.rpki_payloads.specs.declared.exceptions_text.Member.{Member}
use Rattle.rpki_payloads.specs.declared.exceptions_text.Member.TheVariants.{Version, Filters, PrefixFilters, KeyFilters}
use Rattle.rpki_payloads.specs.declared.exceptions_text.Member.TheVariants.{Assertions, PrefixAssertions, KeyAssertions}
use Rattle.rpki_payloads.specs.declared.payload_list.ListError.{ListError}
use Rattle.rpki_payloads.specs.declared.payload_list.ListError.TheVariants as R
use Rattle.rpki_payloads.specs.ExceptionsText.{member_name}
use Rattle.rpki_resources.specs.Text.{prefix_text}
use Rattle.rpkivalid.specs.declared.denial.Denial.{Denial}
use Rattle.rpkivalid.specs.declared.denial.Denial.TheVariants as D
use Rattle.rpkivalid.specs.Request.{Asked}
use Rattle.rpkivalid.specs.Words.{memory_text}

-- what is wrong with a locator, and on which line; where memory fails, no text is made
abbrev pub locator_text : LocatorError → List ℕ
locator_text (L.OtherUri n) = codes "line " ++ (decimal n ++ codes ": not a URI of a trust anchor")
locator_text (L.NoUri n) = codes "line " ++ (decimal n ++ codes ": no URI")
locator_text (L.NoKey n) = codes "line " ++ (decimal n ++ codes ": no empty line before the key")
locator_text (L.OtherText n) = codes "line " ++ (decimal n ++ codes ": not base 64")
locator_text (L.OtherKey n e) = codes "line " ++ (decimal n ++ (codes ": not a public key: " ++ error_text e))
locator_text L.OutOfMemory = []

-- the section of RFC 8416 that says what a member is, and what that is
abbrev pub member_section : Member → List ℕ
member_section Version = codes "3.2"
member_section Filters = codes "3.3"
member_section PrefixFilters = codes "3.3.1"
member_section KeyFilters = codes "3.3.2"
member_section Assertions = codes "3.4"
member_section PrefixAssertions = codes "3.4.1"
member_section KeyAssertions = codes "3.4.2"

abbrev pub member_due : Member → List ℕ
member_due Version = codes "the number 1"
member_due Filters = codes "an object of prefixFilters and bgpsecFilters"
member_due Assertions = codes "an object of prefixAssertions and bgpsecAssertions"
member_due m = codes "an array"

-- with local exceptions: the rule, the member, and which element, counted from 0 on, with its line
abbrev pub exceptions_text : ExceptionsError → (line : ℕ) → List ℕ
exceptions_text (E.Json n) line = codes "3.1: line " ++ (decimal n ++ codes ": not JSON")
exceptions_text E.Twice line = codes "3.1: a member twice in an object"
exceptions_text E.Members line =
    codes "3.2: not an object of slurmVersion, validationOutputFilters and locallyAddedAssertions"
exceptions_text (E.Missing m) line =
    member_section m ++ (codes ": " ++ (member_name m ++ (codes " is not " ++ member_due m)))
exceptions_text (E.Element m i) line =
    member_section m ++ (codes ": line " ++ (decimal line ++ (codes ": " ++ (member_name m ++ (codes "[" ++ (decimal i
    ++ codes "] is no such element"))))))
exceptions_text E.OutOfMemory line = []

-- what two files of them have in common, and may not
abbrev pub overlap_text : Overlap → List ℕ
overlap_text O.Name = codes "both have one name"
overlap_text (O.Prefixes p q) =
    codes "RFC 8416 4.2: " ++ (prefix_text (ip_text p.addr) p.len ++ (codes " and "
    ++ (prefix_text (ip_text q.addr) q.len ++ codes " overlap")))
overlap_text (O.Asn n) = codes "RFC 8416 4.2: both have router keys of AS" ++ decimal n

-- with a list of payloads
abbrev pub list_text : ListError → List ℕ
list_text R.Json = codes "not JSON"
list_text R.Roas = codes "no array roas"
list_text (R.Element i) = codes "roas: not a payload: number " ++ decimal i
list_text (R.Line n) = codes "line " ++ (decimal n ++ codes ": not a payload")
list_text R.OutOfMemory = []

-- the file of this number among those of locators or of exceptions, and the file to be compared
abbrev pub name_at : List (List ℕ) → ℕ → List ℕ
name_at files i = unwrap_or (slice_get files i) []

abbrev pub name_in : Option (List ℕ) → List ℕ
name_in file = unwrap_or file []

abbrev pub unread_text : List ℕ → List ℕ
unread_text name = codes "rpkivalid: " ++ (name ++ codes ": cannot be read\n")

abbrev pub denial_text : Denial → (files : List (List ℕ)) → (exceptions : List (List ℕ)) → (compare : Option (List ℕ))
    → List ℕ
denial_text D.NoMoment files exceptions compare =
    codes "rpkivalid: --at takes a moment such as 2026-11-27T12:00:00Z, or now\n"
denial_text D.NoDepth files exceptions compare =
    codes "rpkivalid: --depth takes a number below 4294967296\n"
denial_text D.NoLeast files exceptions compare =
    codes "rpkivalid: --least takes a number below 4294967296\n"
denial_text D.NoAnchor files exceptions compare =
    codes "rpkivalid: no locator has a trust anchor: nothing is written\n"
denial_text D.TooFew files exceptions compare =
    codes "rpkivalid: fewer route origins than --least asks for: nothing is written\n"
denial_text D.NoUri files exceptions compare =
    codes "rpkivalid: --explain takes an rsync URI, or a prefix with --as\n"
denial_text D.NoRoute files exceptions compare =
    codes "rpkivalid: --as takes an AS number, with --explain and a prefix\n"
denial_text (D.NoFile i) files exceptions compare = unread_text (name_at files i)
denial_text (D.NoLocator i e) files exceptions compare =
    codes "rpkivalid: " ++ (name_at files i ++ (codes ": RFC 8630 2.2: " ++ (locator_text e ++ codes "\n")))
denial_text (D.SameName i) files exceptions compare =
    codes "rpkivalid: " ++ (name_at files i ++ codes ": another locator has its name\n")
denial_text (D.NoExceptions i) files exceptions compare = unread_text (name_at exceptions i)
denial_text (D.InConflict c) files exceptions compare =
    codes "rpkivalid: " ++ (name_at exceptions c.first ++ (codes " and " ++ (name_at exceptions c.second
    ++ (codes ": " ++ (overlap_text c.overlap ++ codes "\n")))))
denial_text (D.OtherExceptions i e line) files exceptions compare =
    codes "rpkivalid: " ++ (name_at exceptions i ++ (codes ": RFC 8416 " ++ (exceptions_text e line ++ codes "\n")))
denial_text D.NoList files exceptions compare = unread_text (name_in compare)
denial_text (D.OtherList e) files exceptions compare =
    codes "rpkivalid: " ++ (name_in compare ++ (codes ": " ++ (list_text e ++ codes "\n")))
denial_text D.OutOfMemory files exceptions compare = memory_text

-- what clauses see
abbrev pub names_of : List (Bor (List ℕ)) → List (List ℕ)
names_of files = map (λ file. file.now) files

abbrev pub name_of : Option (Bor (List ℕ)) → Option (List ℕ)
name_of file = option_map (λ name. name.now) file

-- what is said of what was asked for
abbrev pub text_of : Denial → Asked → List ℕ
text_of d a = denial_text d a.locators a.exceptions a.compare
