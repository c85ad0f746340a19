use Rattle.rpkivalid.proofs.explained.told_under.Goals as goal

pub returns-in-Object : goal.returns-in-Object
returns-in-Object g c = rw c.in-Object.is c.object_under.ensures

pub returns-in-Origin : goal.returns-in-Origin
returns-in-Origin g c = rw c.in-Origin.is (rw c.in-Origin.is at c.refused_under.ensures)

pub returns-in-Alone : goal.returns-in-Alone
returns-in-Alone g c = rw c.in-Alone.is (rw c.in-Alone.is at c.refused_under-in-Alone.ensures)
