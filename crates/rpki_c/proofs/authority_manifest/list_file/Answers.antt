use Rattle.std.proofs.Common.{refl, sym, subst, ◌∙◌}
use Rattle.rpki_contents.specs.FilesInPlace.{AreFiles}
use Rattle.rpki_c.proofs.ListingLaws.{past-another, past-list, second, sought}
use Rattle.rpki_c.proofs.authority_manifest.list_file.Goals as goal

pub files-init : goal.files-init
files-init c = λ xs held. (xs, subst (AreFiles xs) (sym c.files-cursor.ensures.files) held.files, refl)

pub returns-then-is_some : goal.returns-then-is_some
returns-then-is_some c =
    second c.args.files.now c.files.cursor c.next_file.new.self c.in-Some.file c.in-Some.ensures.given c.files.found
    (sym c.is_some.ensures ∙ c.if-is_some.true) (sym c.is_list.ensures ∙ c.if-is_list.true) c.files.invariant

pub files-preserved-then-is_list : goal.files-preserved-then-is_list
files-preserved-then-is_list c =
    past-list c.args.files.now c.files.cursor c.next_file.new.self c.in-Some.file c.in-Some.ensures.given
    c.files.found (sym c.is_some.ensures ∙ c.if-is_some.false) (sym c.is_list.ensures ∙ c.if-is_list.true)
    c.files.invariant

pub files-preserved : goal.files-preserved
files-preserved c =
    past-another c.args.files.now c.files.cursor c.next_file.new.self c.in-Some.file
    c.in-Some.ensures.given c.files.found (sym c.is_list.ensures ∙ c.if-is_list.false) c.files.invariant

pub returns : goal.returns
returns c =
    sought c.args.files.now c.files.cursor c.next_file.new.self c.in_default.ensures.given
    c.files.found c.files.invariant
