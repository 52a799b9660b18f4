-- What a function does not write stays as it was.
use Rattle.std.specs.Prelude.{◌≡◌}
use Rattle.parser_state.specs.declared.Parser.{Parser}

abbrev pub KeepsNodes : Parser → Parser → Type 0
KeepsNodes before after = after.nodes.now ≡ before.nodes.now

abbrev pub KeepsTypes : Parser → Parser → Type 0
KeepsTypes before after = after.types.now ≡ before.types.now

abbrev pub KeepsLists : Parser → Parser → Type 0
KeepsLists before after = after.lists.now ≡ before.lists.now

abbrev pub KeepsNodesTypes : Parser → Parser → Type 0
KeepsNodesTypes before after = KeepsNodes before after × KeepsTypes before after

abbrev pub KeepsNodesLists : Parser → Parser → Type 0
KeepsNodesLists before after = KeepsNodes before after × KeepsLists before after

abbrev pub KeepsTypesLists : Parser → Parser → Type 0
KeepsTypesLists before after = KeepsTypes before after × KeepsLists before after

abbrev pub KeepsAll : Parser → Parser → Type 0
KeepsAll before after = KeepsNodes before after × KeepsTypes before after × KeepsLists before after
