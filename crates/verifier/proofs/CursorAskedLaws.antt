-- Functions that take a reader apart and ask a cursor at its offset of its text (src/reading.rt):
-- each says of the reader what the cursor's function says of text and offset.
use mathlib.Core.Path.{refl}
use mathlib.Core.List.{List, [], ◌∷◌}
use Prim.Native.Nat.{ℕ, ◌<◌, ◌^◌}
use seplogic.Ra.Ura.{Ura}
use mir.Syntax.{Callee, Ty, Fn, local, value_local, named, erased, imm, w8, w64, ty_int, ty_ref, place, field}
use mir.Syntax.{copy, rv_opd, aggregate, assign, call, seq, return}
use mir.Val.{Val, WT, has_ty, vint}
use base.Logic.{ent, sep}
use base.Fml.{Lft, Share}
use lib.Dec.{T as Holds}
use prog.Wp.{Calls, Loops, WpFn, Tables}
use types.Logic.{Logic, sem}
use types.Kit.{‵, raw, ◌⊛◌, ◌$◌, ◌∵◌, !, qed, by, move, use1, use2, split, join, fjoin, frame, done}
use types.Part.{whole, sub, look_in, agg}
use types.Run.{look, init, forget, stop, fld, from, load, of_opd, and_then, no_more, assigns, land, returns}
use types.Run.{enter, alloc1, alloc0, params1, pass1, pass0, free1, free0}
use sound.WpLaws.{FmC, fm_of}
use denote.RattleType.{RattleType, owns}
use denote.Signature.{Slot, plain}
use denote.Laws.{Is, shows}
use denote.Steps.{owned, peeks, nothing}
use denote.Triple.Statement.{Contract, Triple}
use denote.Triple.Entry.{Vals}
use denote.Exit.{yes}
use denote.Builtin.{u8, SliceRefOf}
use denote.Slice.{slice_ty, ShrSlice}
use denote.Triple.End.{Kepts}
use denote.Struct.Laws as LL
use Rattle.lists.specs.Lists.{Bytes}
use Rattle.lines.specs.declared.cursor.Cursor.{Cursor}
use Rattle.lines.specs.contracts.cursor.Cursor as C
use Rattle.lines.proofs.cursor.Cursor.TheLaws as C'
use Rattle.verifier.specs.declared.reading.Reader.{Reader}
use Rattle.verifier.proofs.reading.Reader.TheLaws as T'
use Rattle.verifier.proofs.ByHandLaws.{Token, signature, Call, at, calls}
use Rattle.verifier.proofs.ReaderTakenLaws.{Contracted, Entry, Post, begins, exits, meets}
use Rattle.verifier.proofs.HeldLaws.{Held, text_val, Text, held-twice, held-text}

-- the code of such a function, by the function called and the type of its answer
abbrev pub apart : Callee → Ty → Fn
apart f ty =
    record {
      lifetimes = 1;
      outlives = [];
      ty_params = [];
      givens = 0;
      params = 1;
      locals =
          local ty value_local
          ∷ local (T'.mir (named 0)) value_local
          ∷ local (ty_int w64) value_local
          ∷ local C'.mir value_local
          ∷ local (slice_ty (ty_ref erased imm (ty_int w8))) value_local
          ∷ [];
      body =
          seq (assign (place 2 []) (rv_opd (copy (place 1 (field 1 ∷ [])))))
          (seq (assign (place 3 []) (aggregate (copy (place 2 []) ∷ [])))
          (seq (assign (place 4 []) (rv_opd (copy (place 1 (field 0 ∷ [])))))
          (seq (call f (copy (place 3 []) ∷ copy (place 4 []) ∷ []) (place 0 []))
          return)));
    }

-- what the cursor's function takes
abbrev taken : List (Slot 1)
taken = plain (λ κs. C.the_row) ∷ SliceRefOf (0 ∷ []) tt (plain (λ κs. u8)) (λ κs. tt) ∷ []

abbrev kept : Kepts taken
kept = (yes, (yes, tt))

-- it answers an R, and says something of it, the text and the offset
module _ (R : RattleType) (Says : Bytes → ℕ → R.Denot → Type 0) where
  -- of the reader the same is said
  abbrev pub Same : Reader → R.Denot → Type 0
  Same d = Says d.text.now d.at

  module _ {M : Type 1} {𝓤 : Ura M} (𝓛 : Logic 𝓤) where
    open 𝓛 use {H}

    abbrev pub CursorCall : Contract 𝓤
    CursorCall = Call 1 taken kept (λ κs. R) (λ κs a r. Says a.1.0.now a.0.at r) 𝓤 𝓛

    module _ (κ : Lft) (q : Share) (d : Reader) where
      abbrev cursor : Cursor
      cursor = record { at = d.at }

      -- cursor and text as the machine has them
      abbrev handed : Vals (signature 1 taken kept (λ κs. R)) (κ, tt)
      handed = (C'.lowered cursor ∷ [], (text_val d.text ∷ [], tt))

      abbrev asked : CursorCall.Ghost
      asked = at 1 taken kept (λ κs. R) (λ κs a r. Says a.1.0.now a.0.at r) 𝓤 𝓛 (κ, tt) (q, tt) (cursor, (d.text, tt)) handed

      -- one copy of the reader is opened: its text goes to the function called, with a cursor at
      -- its offset
      hands : d.at < 2 ^ 64 → ent 𝓤 (Entry R Same 𝓛 κ q d) (sep 𝓤 (CursorCall.pre asked) (sem 𝓛 (Held κ d (T'.lowered d))))
      hands fits =
          qed 𝓛 (raw (Entry R Same 𝓛 κ q d) ∷ []) ∵ use1 𝓛 (‵ (Held κ d (T'.lowered d)) ⊛ Token 𝓛 κ q) (begins R Same 𝓛 κ q d) $ split ! $
          use1 𝓛 (‵ (Held κ d (T'.lowered d)) ⊛ ‵ (Held κ d (T'.lowered d))) (held-twice 𝓛 κ d (T'.lowered d)) $ split ! $ use1 𝓛 (‵ (Text κ d.text)) (held-text 𝓛 κ d) $
          -- here: what the text owns; what the reader owns; the token
          nothing ! $ move ! (1 ∷ 0 ∷ []) $ fjoin ! $
          owned ! C.the_row (Is C.the_row) (LL.makes C.the_type C'.the_plain 𝓛) cursor _ ((vint w64 d.at ∷ [], tt), (refl, ((refl, fits), tt))) $ fjoin ! $ move ! (2 ∷ 0 ∷ []) $
          use2 𝓛 (raw (CursorCall.pre asked)) (qed 𝓛 (Token 𝓛 κ q ∷ ‵ (owns (C.the_row ∷ ShrSlice (named 0) κ u8 ∷ []) (cursor, (d.text, tt)) handed) ∷ []) ∵ join ! $ frame ! $ done !) $ frame ! $ done !

      module _ (ty : Ty) (typed : (r : R.Denot) (u : Val) → Is R r (u ∷ []) → Holds (has_ty ty u) × WT u) (C : Calls 𝓤 H) (Λ : Loops 𝓤 H) (fm : FmC 𝓤 H 𝓛.laws C) (f : Callee) (known : Triple 𝓤 (C f) CursorCall) where
        follow : Holds (has_ty (T'.mir (named 0)) (T'.lowered d)) × WT (T'.lowered d) → ent 𝓤 (Entry R Same 𝓛 κ q d) (WpFn 𝓤 H C Λ (apart f ty) (T'.lowered d ∷ []) (Post R Same 𝓛 κ q d))
        follow wt =
            qed 𝓛 (raw (Entry R Same 𝓛 κ q d) ∷ []) ∵ enter ! C Λ (apart f ty) (T'.lowered d ∷ []) _ $
            alloc1 ! (λ l₀. alloc1 ! (λ l₁. alloc1 ! (λ l₂. alloc1 ! (λ l₃. alloc1 ! (λ l₄. alloc0 ! $ params1 ! $ pass1 ! (init ! 6 refl wt) $ pass0 ! $
            assigns ! (of_opd ! (load ! (from ! (fld ! refl (stop !))) (look_in ! 6 (sub ! 1 refl (whole !))))) (from ! (stop !)) (init ! 4 refl (tt, wt.1.1.0)) $
            assigns ! (agg ! (and_then ! (load ! (from ! (stop !)) (look ! 4 refl)) (no_more !))) (from ! (stop !)) (init ! 2 refl (tt, (wt.1.1.0, tt))) $
            assigns ! (of_opd ! (load ! (from ! (fld ! refl (stop !))) (look_in ! 6 (sub ! 0 refl (whole !))))) (from ! (stop !)) (init ! 0 refl (tt, wt.1.0)) $
            move ! (10 ∷ []) $ use1 𝓛 (raw (CursorCall.pre asked) ⊛ ‵ (Held κ d (T'.lowered d))) (hands wt.1.1.0.fits) $ split ! $
            calls 1 taken kept (λ κs. R) (λ κs a r. Says a.1.0.now a.0.at r) 𝓤 𝓛 (κ, tt) (q, tt) (cursor, (d.text, tt)) handed ! fm known
            (and_then ! (load ! (from ! (stop !)) (look ! 4 refl)) (and_then ! (load ! (from ! (stop !)) (look ! 2 refl)) (no_more !))) (λ r u e.
            -- here: the answer; the token; what the reader owns; the locals, the last first
            peeks ! R (Is R) (shows 𝓛 R) r (u ∷ []) (λ is. land ! (from ! (stop !)) (init ! 11 refl (typed r u is)) $
            returns ! (look ! 11 refl) $ forget ! 3 refl $ forget ! 5 refl $ forget ! 7 refl $ forget ! 9 refl $ forget ! 11 refl $
            move ! (11 ∷ 12 ∷ []) $ free1 ! $ move ! (9 ∷ 10 ∷ []) $ free1 ! $ move ! (7 ∷ 8 ∷ []) $ free1 ! $ move ! (5 ∷ 6 ∷ []) $ free1 ! $ move ! (3 ∷ 4 ∷ []) $ free1 ! $ free0 ! $
            by ! (exits R Same 𝓛 κ q d r u e))))))))

    -- where the cursor's function meets its contract, such a function does
    pub apart-meets :
        (ty : Ty) → ((r : R.Denot) (u : Val) → Is R r (u ∷ []) → Holds (has_ty ty u) × WT u) → (f : Callee) (𝓣 : Tables 𝓤 H)
        → Triple 𝓤 (𝓣.C f) CursorCall → Triple 𝓤 (WpFn 𝓤 H 𝓣.C 𝓣.Λ (apart f ty)) (Contracted R Same 𝓛)
    apart-meets ty typed f 𝓣 known = meets R Same 𝓛 (apart f ty) 𝓣 (λ κ q d. follow κ q d ty typed 𝓣.C 𝓣.Λ (fm_of 𝓤 H 𝓛.laws 𝓣) f known)
