-- The function that takes a reader and a line (src/reading.rt): its contract, and what its caller
-- hands over.
use mathlib.Core.Path.{◌≡◌}
use mathlib.Core.List.{List, [], ◌∷◌}
use Prim.Native.Nat.{ℕ}
use seplogic.Ra.Ura.{Ura}
use mir.Val.{Val}
use base.Logic.{ent, sep}
use base.Fml.{Lft, Share}
use types.Logic.{Logic, sem}
use contract.Lifetimes.{Lfts}
use types.Kit.{‵, raw, ◌⊛◌, ⋆, ◌$◌, ◌∵◌, !, qed, move, use1, use2, split, join, fjoin, frame, done}
use denote.RattleType.{RattleType, owns}
use denote.Builtin.{usize}
use denote.Laws.{Is}
use denote.Signature.{Slot, plain}
use denote.Steps.{nothing, owned}
use denote.Struct.Laws.{usize-plain}
use denote.Struct.Tuple.{Tuple, tuple_plain}
use denote.Param.Plain.{struct_plain}
use denote.Enum.Laws as EL
use denote.Triple.End.{Kepts}
use denote.Triple.Statement.{Contract}
use denote.Triple.Walked.{Stays, stay_none}
use denote.Exit.{yes}
use Rattle.std.specs.Prelude.{Option}
use Rattle.std.specs.contracts.option.Option as O
use Rattle.lines.specs.Cursor.{past}
use Rattle.lines.specs.Readings.{read_of}
use Rattle.lines.specs.declared.cursor.Cursor.{Cursor}
use Rattle.lines.specs.contracts.cursor.Cursor as C
use Rattle.lines.proofs.cursor.Cursor.TheLaws as C'
use Rattle.verifier.specs.declared.reading.Reader.{Reader}
use Rattle.verifier.proofs.ByHandLaws.{Token, Call, at}
use Rattle.verifier.proofs.HeldLaws.{held, Held, held-twice}

-- a line, if there is one: where it stops and the cursor after it
abbrev pub line_row : RattleType
line_row = O.the_row (Tuple (usize ∷ C.the_row ∷ []))

-- the two parameters, which stay as they are
abbrev pub taken : List (Slot 1)
taken = plain held ∷ plain (λ κs. line_row) ∷ []

abbrev pub kept : Kepts taken
kept = (yes, (yes, tt))

abbrev pub stayed : Stays taken kept
stayed = (stay_none held yes, (stay_none (λ κs. line_row) yes, tt))

-- what it says of them and the answer
abbrev pub Past : (κs : Lfts 1) (a : Reader × (Option (ℕ × Cursor) × Unit {0})) → Reader → Type 0
Past κs a r = (r.text ≡ a.0.text) × (r.at ≡ past (read_of a.1.0) a.0.at)

module _ {M : Type 1} {𝓤 : Ura M} (𝓛 : Logic 𝓤) where
  abbrev pub Contracted : Contract 𝓤
  Contracted = Call 1 taken kept held Past 𝓤 𝓛

  -- the owner of a reader hands it over with a line, and still owns it
  pub hands :
      (κ : Lft) (q : Share) (d : Reader) (l : Option (ℕ × Cursor)) (v w : Val) → Is line_row l (w ∷ [])
      → ent 𝓤 (⋆ 𝓛 (‵ (Held κ d v) ∷ Token 𝓛 κ q ∷ []))
      (sep 𝓤 (Contracted.pre (at 1 taken kept held Past 𝓤 𝓛 (κ, tt) (q, tt) (d, (l, tt)) (v ∷ [], (w ∷ [], tt)))) (sem 𝓛 (Held κ d v)))
  hands κ q d l v w is =
      let plain_line = tuple_plain (usize ∷ C.the_row ∷ []) (usize-plain, (struct_plain C.the_type C'.the_plain, tt)) in
      let made = EL.makes (O.the_type (Tuple (usize ∷ C.the_row ∷ []))) (tt, ((plain_line, tt), tt)) 𝓛 in
      qed 𝓛 (‵ (Held κ d v) ∷ Token 𝓛 κ q ∷ []) ∵ use1 𝓛 (‵ (Held κ d v) ⊛ ‵ (Held κ d v)) (held-twice 𝓛 κ d v) $ split ! $
      nothing ! $ owned ! line_row (Is line_row) made l _ is $ fjoin ! $ move ! (1 ∷ 0 ∷ []) $ fjoin ! $ move ! (2 ∷ 0 ∷ []) $
      use2 𝓛 (raw (Contracted.pre (at 1 taken kept held Past 𝓤 𝓛 (κ, tt) (q, tt) (d, (l, tt)) (v ∷ [], (w ∷ [], tt)))))
      (qed 𝓛 (Token 𝓛 κ q ∷ ‵ (owns (held (κ, tt) ∷ line_row ∷ []) (d, (l, tt)) (v ∷ [], (w ∷ [], tt))) ∷ []) ∵ join ! $ frame ! $ done !) $ frame ! $ done !
