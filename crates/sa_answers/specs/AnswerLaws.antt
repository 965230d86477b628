-- An answer is the request's.
use Rattle.std.specs.Prelude.{◌≡◌, ◌≢◌, ◌↔◌, ◌⊎◌, ℕ, ◌<◌, List, [], All}
use Rattle.smp_bytes.specs.Field.{number_in}
use Rattle.smp_bytes.specs.Packet.{attribute_id, method}
use Rattle.sa_bytes.specs.Numbers.{sa_done, sa_get_table}
use Rattle.sa_bytes.specs.ReadBack.{HoldsSaAnswer}
use Rattle.sa_answers.specs.Reply.{answer_to, bytes_of, offset_of, payload_of, reply_to, reply_to_get, status_of}
use Rattle.sa_answers.specs.Told.{Told}
use Rattle.sa_answers.specs.declared.reply.Reply.TheVariants.{Refused}
use Rattle.sa_answers.specs.declared.reply.SaRefusal.TheVariants.{NoRecords}

-- the answer to a request is its answer: it has the request's TransactionID, attribute, modifier and component mask, and
-- the method that answers the request's, with what the reply says
abbrev pub AnswersAreTheRequests : Type 0
AnswersAreTheRequests = (told : Told) (request : List ℕ) → All (λ byte. byte < 256) request
    → HoldsSaAnswer request (answer_to told request) (status_of (reply_to told request))
    (payload_of (number_in method request) (reply_to told request)) (offset_of (reply_to told request))
    (bytes_of (reply_to told request))

-- a table without a record is told: the request asks for a table, and as a Get it is refused, since there is no such
-- record
abbrev pub IsEmptyTable : Told → List ℕ → Type 0
IsEmptyTable told request =
    (number_in method request ≡ sa_get_table)
    × (reply_to_get told (number_in attribute_id request) request ≡ Refused NoRecords)

-- the status of a reply is 0 exactly if the reply has bytes, or is a table without a record
abbrev pub DoneIfTold : Type 0
DoneIfTold = (told : Told) (request : List ℕ) → (status_of (reply_to told request) ≡ sa_done)
    ↔ ((bytes_of (reply_to told request) ≢ []) ⊎ IsEmptyTable told request)
