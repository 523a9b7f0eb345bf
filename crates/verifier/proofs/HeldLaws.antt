-- What a text and a reader that holds it own (src/reading.rt): each can be copied, and one is had
-- of the other.
use mathlib.Core.Path.{◌≡◌, refl, sym, subst}
use mathlib.Core.List.{List, [], ◌∷◌}
use Prim.Native.Nat.{ℕ}
use lib.ListN.{length}
use seplogic.Ra.Ura.{Ura}
use mir.Syntax.{named, w8, w64}
use mir.Val.{Val, vstruct, of_list}
use base.Logic.{ent, sep}
use base.Fml.{Lft, Fml}
use types.Logic.{Logic, sem}
use contract.Lifetimes.{Lfts}
use types.Kit.{‵, ◌⊛◌, given, ◌$◌, ◌∵◌, !, qed, by, move, drop, use1, split, learn, fjoin, done}
use denote.RattleType.{RattleType}
use denote.Signature.{named_lft}
use denote.Laws.{Is}
use denote.Steps.{nothing, owned}
use denote.Plain.{uint_Makes, uint_row_laws}
use denote.Builtin.{u8, usize}
use denote.Ref.{Bor}
use denote.Slice.{slice_val, ShrSlice, shr_slice_copy}
use denote.Struct.Values.{Values}
use denote.Struct.Rest.{all_own, field_own, rest, own_open, own_out, own_shut}
use denote.Struct.Laws as LL
use Rattle.lists.specs.Lists.{Bytes}
use Rattle.verifier.specs.declared.reading.Reader.{Reader}
use Rattle.verifier.specs.contracts.reading.Reader as T
use Rattle.verifier.proofs.reading.Reader.TheLaws as T'

-- a reader at the lifetime of a signature, and what it owns at a machine value
abbrev pub held : Lfts 1 → RattleType
held κs = T.the_row (named_lft 1 0 tt κs)

abbrev pub Held : Lft → Reader → Val → Fml
Held κ d v = (held (κ, tt)).own_val d (v ∷ [])

-- a text as the machine has it, and what it owns
abbrev pub text_val : Bor Bytes → Val
text_val s = slice_val s.ref_ptr (length s.now)

abbrev pub Text : Lft → Bor Bytes → Fml
Text κ s = (ShrSlice (named 0) κ u8).own_val s (text_val s ∷ [])

module _ {M : Type 1} {𝓤 : Ura M} (𝓛 : Logic 𝓤) (κ : Lft) where
  -- both can be copied
  pub text-twice : (s : Bor Bytes) → ent 𝓤 (sem 𝓛 (Text κ s)) (sep 𝓤 (sem 𝓛 (Text κ s)) (sem 𝓛 (Text κ s)))
  text-twice s = (shr_slice_copy 𝓛 (named 0) κ u8 (uint_row_laws w8)).twice s (text_val s ∷ [])

  pub held-twice : (d : Reader) (v : Val) → ent 𝓤 (sem 𝓛 (Held κ d v)) (sep 𝓤 (sem 𝓛 (Held κ d v)) (sem 𝓛 (Held κ d v)))
  held-twice d v = let α = named_lft 1 0 tt (κ, tt) in (LL.copy (T.the_type α) (T'.the_copy α) 𝓛).twice d (v ∷ [])

  -- of what a text owns, with an offset, a reader is made
  pub held-made : (s : Bor Bytes) (n : ℕ) (u : Val) → Is usize n (u ∷ []) → ent 𝓤 (sem 𝓛 (Text κ s)) (sem 𝓛 (Held κ (record { text = s; at = n }) (vstruct (of_list (text_val s ∷ u ∷ [])))))
  held-made s n u is =
      let α = named_lft 1 0 tt (κ, tt) in
      subst (λ (us : List Val). ent 𝓤 (sem 𝓛 (Text κ s)) (sem 𝓛 (Held κ (record { text = s; at = n }) (vstruct (of_list (text_val s ∷ us)))))) (sym is.0)
      (qed 𝓛 (‵ (Text κ s) ∷ []) ∵ nothing ! $ owned ! usize (Is usize) (uint_Makes 𝓛 w64) n _ (refl, is.1) $ fjoin ! $ move ! (1 ∷ 0 ∷ []) $ fjoin ! $ by ! (own_shut 𝓛 (T.the_type α) (T'.the_laws α) (s, (n, tt))))

  -- and of a reader what its text owns is had again
  pub held-text : (d : Reader) → ent 𝓤 (sem 𝓛 (Held κ d (T'.lowered d))) (sem 𝓛 (Text κ d.text))
  held-text d =
      let D = T.the_type (named_lft 1 0 tt (κ, tt)) in
      let L = T'.the_laws (named_lft 1 0 tt (κ, tt)) in
      let fields : Values D.parts = (d.text, (d.at, tt)) in
      qed 𝓛 (‵ (Held κ d (T'.lowered d)) ∷ []) ∵
      use1 𝓛 (given (T'.lowered d ∷ [] ≡ T'.lowered d ∷ []) (‵ (all_own D.parts L fields))) (own_open 𝓛 D L fields (T'.lowered d)) $ learn ! (λ _.
      use1 𝓛 (‵ (field_own D.parts L 0 d.text) ⊛ ‵ (rest D.parts L 0 fields)) (own_out 𝓛 D.parts L 0 fields) $ split ! $ move ! (1 ∷ []) $ drop ! $ done !)
