-- `inputs::response::role_in` meets its contract: for each sort its own readers are tried.
use mathlib.Core.Path.{◌≡◌, sym, ◌∙◌, ap}
use Rattle.lists.specs.Lists.{Bytes}
use Rattle.inputs.specs.declared.response.Sort.{Sort}
use Rattle.inputs.specs.ResponseSections.{read_role, role_of}
use Rattle.inputs.proofs.ResponseSectionLaws.{line-begins, entry-begins, line-continues}
use Rattle.inputs.proofs.response.role_in.Goals as goal

-- the role in a section of the sort that was told
told : {j k : Sort} (l : Bytes) → j ≡ k → read_role k l ≡ read_role j l
told l e = ap (λ (i : Sort). read_role i l) (sym e)

pub returns-in-Steps : goal.returns-in-Steps
returns-in-Steps c = ap role_of c.then_some.ensures ∙ line-begins _ _ c.is_step.ensures ∙ told c.args.l.now c.in-Steps.is

pub returns-then-is_entry : goal.returns-then-is_entry
returns-then-is_entry c = sym (entry-begins _ (sym c.is_entry.ensures ∙ c.if-is_entry.true)) ∙ told c.args.l.now c.in-Entries.is

pub returns-else-is_entry : goal.returns-else-is_entry
returns-else-is_entry c =
    let n = sym c.is_entry.ensures ∙ c.if-is_entry.false in
    ap role_of c.then_some-in-Entries.ensures ∙ line-continues _ n _ c.is_lookup.ensures ∙ told c.args.l.now c.in-Entries.is

pub returns-in-Nodes : goal.returns-in-Nodes
returns-in-Nodes c = ap role_of c.then_some-in-Nodes.ensures ∙ line-begins _ _ c.is_node.ensures ∙ told c.args.l.now c.in-Nodes.is

pub returns-in-Ends : goal.returns-in-Ends
returns-in-Ends c = ap role_of c.then_some-in-Ends.ensures ∙ line-begins _ _ c.is_end.ensures ∙ told c.args.l.now c.in-Ends.is
