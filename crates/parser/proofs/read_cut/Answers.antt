-- `parser::read_cut` meets its contract.
use Rattle.std.proofs.Common.{◌≡◌, length, rules, refl, arith}
use Rattle.parser.specs.Collect.{gathered}
use Rattle.parser.proofs.Promised.{strict_outcome, left_as}
use Rattle.parser.proofs.read_cut.Goals as goal

pub parse_roots-read-requires : goal.parse_roots-read-requires
parse_roots-read-requires c = (c.requires, record { cur = c.begin-at.ensures.0; at = c.begin-at.ensures.1; used = c.begin-at.ensures.2; error = refl })

pub returns : goal.returns
returns c =
    let args = c.args in
    let roots = c.parse_roots-read in
    let nodes : length roots.new.p.nodes.now ≡ length args.nodes.now = search rules in
    let types : length roots.new.p.types.now ≡ length args.types.now = search rules in
    let lists : length roots.new.p.lists.now ≡ length args.lists.now = search rules in
    left_as (strict_outcome args.script.now args.nodes.now args.types.now args.lists.now args.roots.now args.diagnostics.now _ (gathered roots.new.p roots.result) roots.ensures.1 roots.ensures.0 nodes types lists (omega (arith, roots.auto.roots))) c.finish.ensures.ends (search rules) (search rules) (search rules)
