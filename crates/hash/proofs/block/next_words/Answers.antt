-- `hash::block::next_words` meets its contract: each store is the window one word later; after
-- sixteen all words are new.
use Rattle.std.proofs.Common.{arith}
use Rattle.hash.proofs.BlockLaws.{window_zero, window_step, next_sixteen}
use Rattle.hash.proofs.block.next_words.Goals as goal

pub returns : goal.returns
returns c =
    let w = c.args.w.now in
    let h = c.told-w in
    let e0 = window_zero w h in
    let e1 = window_step 0 w _ _ h (omega arith) e0 c.schedule_word.ensures in
    let e2 = window_step 1 w _ _ h (omega arith) e1 c.schedule_word-2.ensures in
    let e3 = window_step 2 w _ _ h (omega arith) e2 c.schedule_word-3.ensures in
    let e4 = window_step 3 w _ _ h (omega arith) e3 c.schedule_word-4.ensures in
    let e5 = window_step 4 w _ _ h (omega arith) e4 c.schedule_word-5.ensures in
    let e6 = window_step 5 w _ _ h (omega arith) e5 c.schedule_word-6.ensures in
    let e7 = window_step 6 w _ _ h (omega arith) e6 c.schedule_word-7.ensures in
    let e8 = window_step 7 w _ _ h (omega arith) e7 c.schedule_word-8.ensures in
    let e9 = window_step 8 w _ _ h (omega arith) e8 c.schedule_word-9.ensures in
    let e10 = window_step 9 w _ _ h (omega arith) e9 c.schedule_word-10.ensures in
    let e11 = window_step 10 w _ _ h (omega arith) e10 c.schedule_word-11.ensures in
    let e12 = window_step 11 w _ _ h (omega arith) e11 c.schedule_word-12.ensures in
    let e13 = window_step 12 w _ _ h (omega arith) e12 c.schedule_word-13.ensures in
    let e14 = window_step 13 w _ _ h (omega arith) e13 c.schedule_word-14.ensures in
    let e15 = window_step 14 w _ _ h (omega arith) e14 c.schedule_word-15.ensures in
    let e16 = window_step 15 w _ _ h (omega arith) e15 c.schedule_word-16.ensures in
    next_sixteen w _ h e16
