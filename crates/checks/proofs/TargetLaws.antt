-- Laws of the target of a search that was read: what was found of it, what its fields encode, and
-- how long they are.
use mathlib.Core.Path.{◌≡◌, refl, sym, ap, ◌∙◌, subst}
use mathlib.Core.List.{[]}
use mathlib.Core.Option.{Option, some, get_or}
use Prim.Native.Nat.{◌≤◌}
use lib.ListN.{length}
use Rattle.lists.specs.Lists.{Bytes}
use Rattle.lists.proofs.ChoiceLaws.{given_some}
use Rattle.lines.specs.Hex.{read_hex}
use Rattle.lines.specs.Readings.{part_of}
use Rattle.rules.specs.Limits.{opening_length, value_limit}
use Rattle.rules.specs.Response.{Target, searched, monitored, Parts}
use Rattle.rules.specs.ResponseText.{read_response}
use Rattle.rules.specs.Refusals.{Call}
use Rattle.rules.proofs.PartsLaws.{TargetFits, FindingFits, response_fits}
use Rattle.inputs.specs.declared.response_lines.Finding.TheVariants.{Search, Monitor}
use Rattle.inputs.specs.declared.response_lines.Target.{Target as TargetBlock}
use Rattle.inputs.specs.declared.response.Response.{Response}
use Rattle.inputs.specs.ResponseLines.{decoded, Decodes}
use Rattle.inputs.specs.Response.{finding_in, parts_in, TargetDecodes, Fields}

-- a target, as its fields encode it
abbrev pub target_in : Bytes → TargetBlock → Target
target_in text t =
    record { version = t.version; opening = decoded (part_of text t.opening); value = decoded (part_of text t.value) }

module _ (text : Bytes) (r : Response) (t : TargetBlock) (is_search : r.finding ≡ Search t) where
  -- in a search it is what was found
  pub search-found : (parts_in text r).finding ≡ searched (target_in text t)
  unfolding parts_in finding_in
  search-found = rw is_search refl

  -- by each call with these parts
  pub call-found : (c : Call) → c.parts ≡ parts_in text r → c.parts.finding ≡ searched (target_in text t)
  call-found c e = ap (λ (p : Parts). p.finding) e ∙ search-found

  -- its value is what its field encodes
  pub value-decoded : Fields text r → read_hex (part_of text t.value) ≡ some (target_in text t).value
  unfolding decoded
  value-decoded f =
      let d : Decodes text t.opening × Decodes text t.value = subst (TargetDecodes text) is_search f.target in
      let (v, e) = given_some (read_hex (part_of text t.value)) d.1 in
      e ∙ ap some (sym (ap (λ (o : Option Bytes). get_or o []) e))

  -- its opening and its value have the lengths that the form of a target line asks for
  pub target-lengths : read_response text ≡ some (parts_in text r)
      → (length (decoded (part_of text t.opening)) ≡ opening_length)
      × (length (decoded (part_of text t.value)) ≤ value_limit)
  target-lengths e =
      let h : TargetFits (target_in text t) =
      subst FindingFits search-found (response_fits text (parts_in text r) e).finding in
      (h.opening, h.value)

module _ (text : Bytes) (r : Response) (is_monitoring : r.finding ≡ Monitor) where
  -- in monitoring nothing is found
  pub nothing-found : (c : Call) → c.parts ≡ parts_in text r → c.parts.finding ≡ monitored
  unfolding parts_in finding_in
  nothing-found c e = ap (λ (p : Parts). p.finding) e ∙ rw is_monitoring refl
