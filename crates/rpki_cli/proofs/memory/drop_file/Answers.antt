use Rattle.std.proofs.lemmas.Map.Text.{btree_map_updates_text}
use Rattle.rpki_cli.proofs.Files.{elsewhere}
use Rattle.rpki_cli.proofs.memory.drop_file.Goals as goal

pub returns-clause-others : goal.returns-clause-others
returns-clause-others c = elsewhere c.args.files.now c.remove.new.self c.args.name.now _
    (btree_map_updates_text c.args.name.now c.args.files.now c.remove.new.self _ c.remove.ensures.updates)
