use Rattle.rpki_contents.proofs.WritingLaws.{value-list}
use Rattle.rpki_contents.proofs.encode.FilesEncoder.new.Goals as goal

pub returns-then-can_write_files-clause-short : goal.returns-then-can_write_files-clause-short
returns-then-can_write_files-clause-short c =
    value-list c.args.files.now (c.can_write_files.ensures.written.0 c.if-can_write_files.true)
