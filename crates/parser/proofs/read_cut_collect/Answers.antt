-- `parser::read_cut_collect` meets its contract.
use Rattle.std.proofs.Common.{◌≡◌, length, rules, refl, arith}
use Rattle.parser.specs.Collect.{gathered}
use Rattle.parser.proofs.Promised.{collect_outcome, left_as}
use Rattle.parser.proofs.read_cut_collect.Goals as goal

pub parse_roots_collect-read-requires : goal.parse_roots_collect-read-requires
parse_roots_collect-read-requires c = (c.requires.0, record { cur = c.begin-at.ensures.0; at = c.begin-at.ensures.1; used = c.begin-at.ensures.2; error = refl }, c.requires.1, c.requires.2)

pub returns : goal.returns
returns c =
    let args = c.args in
    let roots = c.parse_roots_collect-read in
    let nodes : length roots.new.p.nodes.now ≡ length args.nodes.now = search rules in
    let types : length roots.new.p.types.now ≡ length args.types.now = search rules in
    let lists : length roots.new.p.lists.now ≡ length args.lists.now = search rules in
    left_as (collect_outcome args.script.now args.nodes.now args.types.now args.lists.now args.roots.now args.diagnostics.now _ _ (gathered roots.new.p roots.result) roots.ensures.0 nodes types lists (omega (arith, roots.auto.roots)) (omega (arith, roots.auto.diagnostics))) c.finish.ensures.ends (search rules) (search rules) (search rules)
