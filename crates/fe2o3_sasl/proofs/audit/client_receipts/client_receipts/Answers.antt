use Rattle.std.proofs.Common.{◌≡◌, ℕ, map, arith, length, subst}
use Rattle.fe2o3_sasl_core.specs.Events.{Login}
use Rattle.fe2o3_sasl_core.specs.Runs.{given, client_answer, login_with}
use Rattle.fe2o3_sasl.specs.private.Findings.{client_receipt}
use Rattle.fe2o3_sasl.specs.private.Receipts.{Covers, IsShownReceipt, ProvesAt}
use Rattle.fe2o3_sasl.proofs.lemmas.audit.ClientReceiptLemmas.{client_next, start_behind}
use Rattle.fe2o3_sasl.proofs.lemmas.audit.CoverLemmas.{at_index}
use Rattle.fe2o3_sasl.proofs.audit.client_receipts.client_receipts.Goals as goal

pub loop-place-preserved : goal.loop-place-preserved
loop-place-preserved c =
    let login : Login = login_with c.args.options c.args.version c.args.user.now c.args.password.now in
    let events = map given c.args.events.now in
    let replies = map client_answer c.args.replies.now in
    let i = c.loop-place.place in
    let last = c.loop-place.last in
    let next = c.in_ok-last.last in
    let init = c.index-events-last.result in
    let event = c.index-events-place.result in
    let reply = c.index-replies-place.result in
    let shown = map client_receipt c.loop-place.receipts.shown.items in
    let taken = map client_receipt c.loop-place.receipts.taken.items in
    let shown' = map client_receipt c.keep_reply.new.receipts.shown.items in
    let taken' = map client_receipt c.keep_reply.new.receipts.taken.items in
    let keeps = c.in_ok-last.ensures.keeps in
    record {
      so_far = client_next login events replies c.requires.history i last next shown shown' taken taken' (given init)
          (given event) (client_answer reply)
          (at_index client_answer c.args.replies.now i reply (omega arith) c.index-replies-place.is)
          (at_index given c.args.events.now last.start init (omega arith) c.index-events-last.is)
          (at_index given c.args.events.now i event (omega arith) c.index-events-place.is)
          keeps c.loop-place.invariant.so_far;
      behind = start_behind login events replies c.requires.history i last next shown shown' taken taken' (given init)
          (given event) (client_answer reply) keeps c.loop-place.invariant.behind;
      keys = c.in_ok-last.ensures.kept;
    }

pub returns-clause-shown : goal.returns-clause-shown
returns-clause-shown c =
    let login : Login = login_with c.args.options c.args.version c.args.user.now c.args.password.now in
    let events = map given c.args.events.now in
    let replies = map client_answer c.args.replies.now in
    let whole : c.loop-place.place ≡ length c.args.events.now = omega arith in
    subst (λ (k : ℕ). Covers (IsShownReceipt login events replies) (λ receipt. receipt.place)
    (ProvesAt login events replies) k (map client_receipt c.loop-place.receipts.shown.items)) whole
    c.loop-place.invariant.so_far.shows
