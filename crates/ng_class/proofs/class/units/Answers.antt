use Rattle.std.proofs.Common.{◌≡◌, rules}
use Rattle.ng_class.specs.Class.{unit_table, units_of}
use Rattle.ng_class.proofs.Classes.{units_of_le, units_of_pos}
use Rattle.ng_class.proofs.class.units.Goals as goal

pub returns-clause-least : goal.returns-clause-least
unfolding unit_table
returns-clause-least c =
    let value : c.from.result ≡ units_of c.args.class = search rules in rw value (units_of_pos c.args.class c.requires)

pub returns-clause-most : goal.returns-clause-most
unfolding unit_table
returns-clause-most c =
    let value : c.from.result ≡ units_of c.args.class = search rules in rw value (units_of_le c.args.class c.requires)
