-- Functions that take a text and an offset and make a reader (src/reading.rt): what they have at
-- entry and owe at exit, and what their callers have.
use mathlib.Core.Path.{refl}
use mathlib.Core.List.{List, [], ◌∷◌}
use Prim.Native.Nat.{ℕ, ◌<◌, ◌^◌}
use lib.Dec.{T as Holds}
use seplogic.Ra.Ura.{Ura}
use mir.Syntax.{Fn, named, imm, ty_ref, ty_int, w8, w64}
use mir.Val.{Val, WT, has_ty, vint}
use base.Logic.{SProp, ent, sep, emp, via, fst∗}
use base.Fml.{Lft, Share}
use prog.Wp.{WpFn, Tables}
use types.Logic.{Logic, sem}
use contract.Lifetimes.{Lfts}
use types.Kit.{‵, raw, ◌⊛◌, ⋆, ◌$◌, ◌∵◌, !, qed, move, drop, use1, use2, split, join, fsplit, fjoin}
use types.Kit.{suffices, frame, done}
use sound.WpLaws.{WpFn-mono}
use denote.RattleType.{RattleType, owns}
use denote.Laws.{Is}
use denote.Plain.{uint_vals, uint_Tells, uint_Makes}
use denote.Builtin.{u8, usize, SliceRefOf}
use denote.Ref.{Bor}
use denote.Signature.{Slot, plain}
use denote.Slice.{slice_ty, ShrSlice, shr_slice_vals, shr_slice_Tells, shr_slice_Lawful}
use denote.Steps.{nothing, owned}
use denote.Triple.Clauses.{Clauses}
use denote.Triple.Entry.{Vals, on_entry}
use denote.Triple.Statement.{Contract, Triple}
use denote.Triple.Walked.{says, Stays, stay_none, stay_none_slice, walk_of, Goes-none, Goes-none_slice}
use denote.Triple.Walked.{ends_at, walked, walk_Meets}
use denote.Exit.{yes}
use denote.Triple.End.{Kepts}
use Rattle.lists.specs.Lists.{Bytes}
use Rattle.verifier.proofs.ByHandLaws.{Token, signature, ended, clauses, Call, at}
use Rattle.verifier.proofs.HeldLaws.{text_val, Text, text-twice}

-- the two parameters, which stay as they are
abbrev pub taken : List (Slot 1)
taken = SliceRefOf (0 ∷ []) tt (plain (λ κs. u8)) (λ κs. tt) ∷ plain (λ κs. usize) ∷ []

abbrev pub kept : Kepts taken
kept = (yes, (yes, tt))

abbrev stayed : Stays taken kept
stayed = (stay_none_slice (0 ∷ []) tt (plain (λ κs. u8)) yes, (stay_none (λ κs. usize) yes, tt))

-- the function answers an R at its lifetime, and says something of it, the text and the offset
module _ (R : Lfts 1 → RattleType) (Says : (κs : Lfts 1) → Bor Bytes → ℕ → (R κs).Denot → Type 0) {M : Type 1} {𝓤 : Ura M} (𝓛 : Logic 𝓤) where
  open 𝓛 use {H}

  abbrev pub Contracted : Contract 𝓤
  Contracted = Call 1 taken kept R (λ κs a r. Says κs a.0 a.1.0 r) 𝓤 𝓛

  abbrev said : Clauses 𝓤 (ended 1 taken kept R)
  said = clauses 1 taken kept R (λ κs a r. Says κs a.0 a.1.0 r) 𝓤

  module _ (κ : Lft) (q : Share) (s : Bor Bytes) (n : ℕ) where
    abbrev handed : Vals (signature 1 taken kept R) (κ, tt)
    handed = (text_val s ∷ [], (vint w64 n ∷ [], tt))

    abbrev pub asked : Contracted.Ghost
    asked = at 1 taken kept R (λ κs a r. Says κs a.0 a.1.0 r) 𝓤 𝓛 (κ, tt) (q, tt) (s, (n, tt)) handed

    abbrev pub Entry : SProp 𝓤
    Entry = on_entry 𝓛 (signature 1 taken kept R) (κ, tt) (q, tt) (s, (n, tt)) handed

    abbrev pub Post : Val → SProp 𝓤
    Post = (walk_of 𝓛 (ended 1 taken kept R) stayed said).post asked

    -- at entry: what the text owns, and the token
    pub begins : ent 𝓤 Entry (⋆ 𝓛 (‵ (Text κ s) ∷ Token 𝓛 κ q ∷ []))
    begins =
        qed 𝓛 (Token 𝓛 κ q ∷ ‵ (owns (ShrSlice (named 0) κ u8 ∷ usize ∷ []) (s, (n, tt)) handed) ∷ []) ∵
        move ! (1 ∷ []) $ fsplit ! $ move ! (1 ∷ []) $ drop ! $ frame ! $ done !

    -- at exit: the answer, the token, and what the text owns
    pub exits : n < 2 ^ 64 → (r : (R (κ, tt)).Denot) (u : Val) → Says (κ, tt) s n r → ent 𝓤 (⋆ 𝓛 (‵ ((R (κ, tt)).own_val r (u ∷ [])) ∷ Token 𝓛 κ q ∷ ‵ (Text κ s) ∷ [])) (Post u)
    exits fits r u e =
        qed 𝓛 (‵ ((R (κ, tt)).own_val r (u ∷ [])) ∷ Token 𝓛 κ q ∷ ‵ (Text κ s) ∷ []) ∵
        suffices ! _ (ends_at 𝓛 (ended 1 taken kept R) stayed said asked u r (tt, (tt, tt)) (tt, (tt, tt))) $ says ! e $
        move ! (1 ∷ []) $ frame ! $ nothing ! $ owned ! usize (Is usize) (uint_Makes 𝓛 w64) n _ (refl, fits) $ fjoin ! $ move ! (2 ∷ 0 ∷ []) $ fjoin ! $ frame ! $ done !

    -- the owner of a text hands it over and still owns it
    pub hands : n < 2 ^ 64 → ent 𝓤 (⋆ 𝓛 (‵ (Text κ s) ∷ Token 𝓛 κ q ∷ [])) (sep 𝓤 (Contracted.pre asked) (sem 𝓛 (Text κ s)))
    hands fits =
        qed 𝓛 (‵ (Text κ s) ∷ Token 𝓛 κ q ∷ []) ∵ use1 𝓛 (‵ (Text κ s) ⊛ ‵ (Text κ s)) (text-twice 𝓛 κ s) $ split ! $
        nothing ! $ owned ! usize (Is usize) (uint_Makes 𝓛 w64) n _ (refl, fits) $ fjoin ! $ move ! (1 ∷ 0 ∷ []) $ fjoin ! $ move ! (2 ∷ 0 ∷ []) $
        use2 𝓛 (raw (Contracted.pre asked)) (qed 𝓛 (Token 𝓛 κ q ∷ ‵ (owns (ShrSlice (named 0) κ u8 ∷ usize ∷ []) (s, (n, tt)) handed) ∷ []) ∵ join ! $ frame ! $ done !) $ frame ! $ done !

  -- a proof at every text and offset shows the contract
  pub meets :
      (body : Fn) (𝓣 : Tables 𝓤 H)
      → ((κ : Lft) (q : Share) (s : Bor Bytes) (n : ℕ) → n < 2 ^ 64 → Holds (has_ty (slice_ty (ty_ref (named 0) imm (ty_int w8))) (text_val s)) × WT (text_val s)
      → ent 𝓤 (Entry κ q s n) (WpFn 𝓤 H 𝓣.C 𝓣.Λ body (text_val s ∷ vint w64 n ∷ []) (Post κ q s n)))
      → Triple 𝓤 (WpFn 𝓤 H 𝓣.C 𝓣.Λ body) Contracted
  meets body 𝓣 follow =
      let run = WpFn 𝓤 H 𝓣.C 𝓣.Λ body in
      walk_Meets 𝓛 (ended 1 taken kept R) stayed (Goes-none_slice 𝓛 1 (0 ∷ []) tt (plain (λ κs. u8)) yes, (Goes-none 𝓛 1 (λ κs. usize) yes (λ κs x f. refl), tt)) said run (WpFn-mono 𝓤 H 𝓛.laws 𝓣 body)
      (walked 𝓛 (ended 1 taken kept R) stayed said run (λ κs. (shr_slice_vals, (uint_vals w64, tt))) (λ κs. (shr_slice_Tells (named 0) κs.0 u8, (uint_Tells w64, tt)))
      (λ κs qs bounds a g are. via 𝓤 _ (fst∗ 𝓤 _ (emp 𝓤)) (follow κs.0 qs.0 a.0 a.1.0 are.1.0.1 ((shr_slice_Lawful 𝓛 (named 0) κs.0 u8).typed a.0 _ are.0).0)))
