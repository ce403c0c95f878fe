use Rattle.host_driver.proofs.Replies.{sample_replies, echo_replies, sink_replies}
use Rattle.host_driver.proofs.laws.replies.Goals as goal

pub returns-clause-sample : goal.returns-clause-sample
returns-clause-sample c = λ endpoint channel messages. sample_replies endpoint channel 0 messages

pub returns-clause-echo : goal.returns-clause-echo
returns-clause-echo c = λ endpoint channel messages. echo_replies endpoint channel 0 messages

pub returns-clause-sink : goal.returns-clause-sink
returns-clause-sink c = λ endpoint channel messages. sink_replies endpoint channel 0 messages
