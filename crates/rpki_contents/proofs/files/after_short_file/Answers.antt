use Rattle.std.proofs.Common.{◌∙◌, sym}
use Rattle.std.proofs.lemmas.List.{take_rest}
use Rattle.rpki_contents.proofs.ShortFileLaws.{file-there}
use Rattle.rpki_contents.proofs.files.after_short_file.Goals as goal

pub returns-else-not-is_file_name : goal.returns-else-not-is_file_name
returns-else-not-is_file_name c =
    let legal = sym c.is_file_name.ensures ∙ c.if-not-is_file_name.false in
    let size = rw take_rest at c.if-digest-ne32.false in
    file-there c.args.octets.now c.in-Some.parts.now c.in-Some.rest.now c.in-Some-short_value.name.now
    c.in-Some-short_value.behind.now c.in-Some.ensures.some c.in-Some-short_value.ensures.some legal
    c.in-len3-up.len_at_least c.if-tag-ne3.false c.if-length-ne33.false c.if-unused-ne0.false size
