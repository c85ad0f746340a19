use Rattle.std.proofs.Common.{rules, string_bytes}
use Rattle.std.proofs.lemmas.Map.Text.{btree_map_updates_text}
use Rattle.rpki_cli.proofs.Files.{is_put}
use Rattle.rpki_cli.proofs.memory.put.Goals as goal

pub returns-clause-some : goal.returns-clause-some
returns-clause-some c =
    is_put c.args.files.now c.insert.new.self c.args.name.now c.args.other.now (string_bytes c.in_ok-beside.beside)
    c.args.text.now
    (string_bytes c.in_ok-key.key) c.in_ok-octets.octets (search rules)
    (btree_map_updates_text (string_bytes c.in_ok-key.key) c.args.files.now c.insert.new.self _ (search (
      rules,
      c.insert.ensures.updates,
    )))
    (search rules) (search rules) (search rules) (search rules)
