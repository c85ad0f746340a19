use Rattle.rpkibasic.specs.declared.command.Command.TheVariants.{Again, Data, Key, Uri, Ext, Name}
use Rattle.rpkibasic.proofs.AnswerLaws.{answered}
use Rattle.rpkibasic.proofs.runs.answer.Goals as goal

pub returns-in-Again : goal.returns-in-Again
returns-in-Again g c = answered c.args.command Again _ _ _ c.in-Again.is c.in_ok-octets.ensures.whole
    c.in_ok-octets.ensures.most c.again.ensures

pub returns-in-Data : goal.returns-in-Data
returns-in-Data g c = answered c.args.command Data _ _ _ c.in-Data.is c.in_ok-octets.ensures.whole
    c.in_ok-octets.ensures.most c.data.ensures

pub returns-in-Key : goal.returns-in-Key
returns-in-Key g c = answered c.args.command Key _ _ _ c.in-Key.is c.in_ok-octets.ensures.whole
    c.in_ok-octets.ensures.most c.key.ensures

pub returns-in-Uri : goal.returns-in-Uri
returns-in-Uri g c = answered c.args.command Uri _ _ _ c.in-Uri.is c.in_ok-octets.ensures.whole
    c.in_ok-octets.ensures.most c.uri.ensures

pub returns-in-Ext : goal.returns-in-Ext
returns-in-Ext g c = answered c.args.command Ext _ _ _ c.in-Ext.is c.in_ok-octets.ensures.whole
    c.in_ok-octets.ensures.most c.ext.ensures

pub returns-in-Name : goal.returns-in-Name
returns-in-Name g c = answered c.args.command Name _ _ _ c.in-Name.is c.in_ok-octets.ensures.whole
    c.in_ok-octets.ensures.most c.name.ensures
