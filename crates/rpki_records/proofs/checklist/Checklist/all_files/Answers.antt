use Rattle.rpki_records.specs.Checklist.{given_file_at}
use Rattle.rpki_records.proofs.FirstsLaws.{next_first}
use Rattle.rpki_records.proofs.checklist.Checklist.all_files.Goals as goal

pub files-preserved : goal.files-preserved
files-preserved c =
    next_first given_file_at c.files.number c.args.self.files.now _ _ _ _ _ c.files.invariant.0 c.files.invariant.1
    c.next_file.ensures.given c.in_ok-push_where.ensures
