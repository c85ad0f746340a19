use Rattle.std.proofs.Common.{◌∙◌, map, refl, sym}
use Rattle.rpki_locator.specs.Locator.{uri_text}
use Rattle.rpkicert.specs.Locator.IsNoLocator.{NotAsked, Lacking}
use Rattle.rpkicert.proofs.locator.sheet_of.Goals as goal

pub returns-then-asks_cert : goal.returns-then-asks_cert
returns-then-asks_cert c is =
    NotAsked (map uri_text c.args.locator.now.uris.items) c.args.locator.now.key is
    (sym c.asks_cert.ensures ∙ c.if-asks_cert.true) refl

pub returns-in-Ok : goal.returns-in-Ok
returns-in-Ok c is = (
  sym c.asks_cert.ensures ∙ c.if-asks_cert.false,
  (
    map uri_text c.args.locator.now.uris.items,
    c.args.locator.now.key,
    is,
    rw (c.as_bytes.ensures.value, c.name_of.ensures) at c.in-Ok.ensures,
  ),
)

pub returns-in-Err : goal.returns-in-Err
returns-in-Err c is = Lacking c.from.ensures
