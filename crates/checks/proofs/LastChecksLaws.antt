-- Laws of a call to which none of 6 to 14 applies (specs/Calls.antt): 15 is tried next, and then
-- 16.
use mathlib.Core.Path.{◌≡◌, refl, sym, ap, ◌∙◌}
use mathlib.Core.Logic.{inl}
use mathlib.Core.Bool.{Bool, true, false, not}
use mathlib.Core.List.{List, [], ◌∷◌}
use mathlib.Core.Option.{Option}
use Prim.Native.Nat.{ℕ}
use Rattle.lists.specs.Lists.{Bytes, same}
use Rattle.rules.specs.Configuration.{tree_head}
use Rattle.rules.specs.State.{State}
use Rattle.rules.specs.Response.{Kind, Parts}
use Rattle.rules.specs.Refusals.{Inputs, Call, refused, Rule, rule, tried, log_root, tree_head_of, head_differs}
use Rattle.rules.specs.Refusals.{last_checks}
use Rattle.rules.specs.Calls.{inputs_within}
use Rattle.rules.proofs.RefusalLaws.{refuses, rest_tried}
use Rattle.inputs.specs.Response.{parts_in}
use Rattle.checks.specs.declared.readings.Call.{Call as CallBlock}
use Rattle.checks.specs.Calls.{arguments_of, rules16, IsGiven}

-- 15 by itself
abbrev rules15 : List Rule
rules15 = rule 15 head_differs ∷ []

-- the text that the log signs, from its parts
head_of : (c : Call) (a : Bytes) (n : ℕ) (root : Bytes) → c.inputs.configuration ≡ a
    → c.parts.tree_size ≡ n → root ≡ log_root c
    → tree_head a n root ≡ tree_head_of c
unfolding tree_head_of
head_of c a n root e f g = rw (← e, ← f, g) refl

module _ {c : Call} {limit : ℕ} {kind : Option Kind} {st : Option State} {k : CallBlock}
    {text configuration identifier outputs signed : Bytes} {room : ℕ}
    (i : IsGiven c limit kind st k text configuration identifier outputs signed room)
    (root : Bytes) (is_root : root ≡ log_root c)
  where
    -- that of the log that the call shows
    pub head-given : tree_head configuration k.response.tree_size root ≡ tree_head_of c
    unfolding parts_in inputs_within arguments_of
    head-given =
        head_of c configuration k.response.tree_size root
        (ap (λ (y : Inputs). y.configuration) i.inputs)
        (ap (λ (y : Parts). y.tree_size) i.call.parts) is_root

    module _ (b : Bool) (is_same : b ≡ same signed (tree_head configuration k.response.tree_size root)) where
      -- whether 15 applies
      fifteen-known : head_differs c ≡ not b
      unfolding head_differs inputs_within
      fifteen-known =
          let s : c.inputs.signed_text ≡ signed = ap (λ (y : Inputs). y.signed_text) i.inputs in
          ap not (ap (λ (x : Bytes). same x (tree_head_of c)) s ∙ ap (same signed) (sym head-given) ∙ sym is_same)

      -- the signed text differs
      pub text-differs : b ≡ false → tried last_checks c ≡ refused 15
      unfolding last_checks
      text-differs f = refuses last_checks c 15 (inl (fifteen-known ∙ ap not f, refl))

      -- it does not: 16 is left
      pub text_same : b ≡ true → tried last_checks c ≡ tried rules16 c
      unfolding last_checks
      text_same f = rest_tried rules15 rules16 c (fifteen-known ∙ ap not f, tt)
